-- The marks and stamps on a key's versions, told by the history: where a session has no write on the key it has no mark
-- there, where it has one it has a mark, and no stamp is above the clock.
use Rattle.std.proofs.Common.{◌≡◌, ℕ, ◌≤◌, Bool, true, false, ◌&&◌, ◌||◌, eqb, List, [], ◌∷◌, is_some, Some, None, Option, refl, ap, ◌∙◌, inl, inr, arith}
use Rattle.std.specs.List.{AllByRecursion as All}
use Rattle.std.proofs.lemmas.Bool.{cases_eq, le-ltb}
use Rattle.std.proofs.lemmas.Bool.Decides.{nat_tests}
use Rattle.rules.specs.declared.times.Moment.{Moment}
use Rattle.rules.specs.Times.{begin_marked, end_marked}
use Rattle.slots.specs.Lists.{any, list_of}
use Rattle.slots.proofs.Folds.{none_all, all_both}
use Rattle.versions.specs.History.{Commit, Turn}
use Rattle.versions.proofs.Versions.{Version, v_begun, v_ended, v_above, put_of, wrote_above, writes_of, had_at, Rel, Tidy}
use Rattle.versions.proofs.Rows.{none_unless, any_weaker, none_rows, rows_any}

-- a begin, and an end, with no mark but that of s
abbrev pub OnlyBegin : ℕ → Moment → Type 0
OnlyBegin s x = (m : ℕ) → (m ≡ s → ⊥) → begin_marked x m ≡ false

abbrev pub OnlyEnd : ℕ → Option Moment → Type 0
OnlyEnd s y = (m : ℕ) → (m ≡ s → ⊥) → end_marked y m ≡ false

module _ {R : Type 0} where
  -- no mark of s
  abbrev pub NoMark : ℕ → Version R → Type 0
  NoMark s v = (v_begun s v ≡ false) × (v_ended s v ≡ false)

  -- no mark but that of s
  abbrev pub OnlyMark : ℕ → Version R → Type 0
  OnlyMark s v = (m : ℕ) → (m ≡ s → ⊥) → NoMark m v

  pub only_begin : (s : ℕ) (v : Version R) → OnlyMark s v → OnlyBegin s v.begin
  only_begin s v only m ne = (only m ne).0

  pub only_end : (s : ℕ) (v : Version R) → OnlyMark s v → OnlyEnd s v.end
  only_end s v only m ne = (only m ne).1

  -- a mark of s
  abbrev pub v_marked : ℕ → Version R → Bool
  v_marked s v = v_begun s v || v_ended s v

  -- where no other session has a mark on any version, each has only that of s
  pub only_marks : (s : ℕ) (V : List (Version R)) → ((m : ℕ) → (m ≡ s → ⊥) → All (NoMark m) V) → All (OnlyMark s) V
  only_marks s [] f = tt
  only_marks s (v ∷ V) f = (λ m ne. (f m ne).0, only_marks s V (λ m ne. (f m ne).1))

  -- no commit has a stamp above the clock
  pub wrote_none : (cs : List (Commit R)) (t k : ℕ) → All (λ x. x.stamp ≤ t) cs → wrote_above cs t k ≡ false
  unfolding any
  wrote_none [] t k a = refl
  wrote_none (x ∷ cs) t k a = rw (le-ltb t x.stamp a.0) (wrote_none cs t k a.1)

-- a mark n that is no other session's is that of s
pub own_mark : (n s : ℕ) → ((m : ℕ) → (m ≡ s → ⊥) → eqb n m ≡ false) → n ≡ s
own_mark n s f = elim (cases_eq n s) [
  | inl same ↦ same
  | inr other ↦ absurd (let differs = f n other in grind (arith, nat_tests))
]

module _ {R : Type 0} {h : ℕ} {cs : List (Commit R)} {turn : ℕ → Option (Turn R)} {k : ℕ} {V : List (Version R)}
    (rel : Rel h cs turn k V) where
  pub no_mark : (s : ℕ) → writes_of turn s k ≡ None → All (NoMark s) V
  no_mark s none =
      all_both _ _ V (none_rows (v_begun s) V (rw none at (rel.begun s))) (none_all (v_ended s) V (rw none at (rel.ended s)))

  pub has_mark : {c : ℕ} → Tidy h c cs turn k
      → (s : ℕ) (w : Option R) → writes_of turn s k ≡ Some w → any (v_marked s) V ≡ true
  has_mark tidy s None wrote =
      let ended = rel.ended s ∙ (ap (λ x. is_some x && had_at cs turn s k) wrote ∙ tidy.dropped s wrote) in
      any_weaker (v_ended s) (v_marked s) V (λ v p. grind arith) ended
  has_mark tidy s (Some q) wrote =
      let begun = rel.begun s ∙ ap (λ x. list_of (put_of x)) wrote in
      any_weaker (v_begun s) (v_marked s) V (λ v p. grind arith) (rows_any (v_begun s) V q begun)

  pub none_above : {c : ℕ} → Tidy h c cs turn k → All (λ v. v_above c v ≡ false) V
  none_above {c} tidy = none_all (v_above c) V (rel.stamps c tidy.low ∙ wrote_none cs c k tidy.past)

module _ {R : Type 0} {h c : ℕ} {cs : List (Commit R)} {turn : ℕ → Option (Turn R)} {k : ℕ} (tidy : Tidy h c cs turn k) where
  -- where one session has a write no other has, and so no other has a mark
  pub no_other_write : (s : ℕ) (w : Option R) → writes_of turn s k ≡ Some w
      → (m : ℕ) → (m ≡ s → ⊥) → writes_of turn m k ≡ None
  no_other_write s w wrote m ne = none_unless (writes_of turn m k) (λ x p. ne (tidy.lone m s x w p wrote))

  pub only_mark : {V : List (Version R)} → Rel h cs turn k V
      → (s : ℕ) (w : Option R) → writes_of turn s k ≡ Some w → All (OnlyMark s) V
  only_mark {V} rel s w wrote = only_marks s V (λ m ne. no_mark rel m (no_other_write s w wrote m ne))
