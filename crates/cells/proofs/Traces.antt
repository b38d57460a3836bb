-- The stamps and the marks that a store has on its keys, told by the history: a key has a stamp above t just where a commit
-- wrote it later, and a session has marks just where it has writes.
use Rattle.std.proofs.Common.{◌≡◌, ℕ, ◌≤◌, Bool, true, false, ◌||◌, ltb, Some, None, Option, sym, refl, ◌∙◌, arith}
use Rattle.std.specs.List.{AllByRecursion as All}
use Rattle.std.proofs.lemmas.Bool.{or_parts, and_right}
use Rattle.std.proofs.lemmas.Bool.Decides.{nat_tests}
use Rattle.rules.specs.declared.times.Moment.{Moment}
use Rattle.rules.specs.declared.times.Moment.TheVariants as moment
use Rattle.rules.specs.Looking.{above}
use Rattle.rules.specs.Selling.{hot_marked, notice_marked, has_marks}
use Rattle.rules.specs.Stores.{Store, horizon_of}
use Rattle.rules.specs.Times.{begin_marked, end_marked, begin_above, end_above}
use Rattle.slots.specs.Lists.{any}
use Rattle.slots.proofs.Folds.{none_all, all_none, all_then}
use Rattle.versions.specs.History.{History}
use Rattle.versions.proofs.Versions.{v_above, writes_of, wrote_above}
use Rattle.versions.proofs.Marks.{v_marked, no_mark, has_mark}
use Rattle.cells.proofs.Found.{none_by_key}
use Rattle.cells.proofs.Cells.{QuietEnd, quiet_unmarked, versions, Whole}
use Rattle.cells.proofs.Telling.{Free, FailsPast, FailsParts, tells_notices, tells_hot, tells_versions, or_open, or_one}

-- two tests are the same where each fails if the other does
pub bool_eq : (a c : Bool) → (a ≡ false → c ≡ false) → (c ≡ false → a ≡ false) → a ≡ c
bool_eq true true f g = refl
bool_eq true false f g = g refl
bool_eq false true f g = sym (f refl)
bool_eq false false f g = refl

-- a stamp above t
abbrev stamp_above : ℕ → Moment → Option Moment → Bool
stamp_above t x y = begin_above x t || end_above y t

above_parts : (t : ℕ) → 1 ≤ t → FailsParts (stamp_above t)
above_parts t late = record {
  plain = grind (arith, nat_tests);
  opens = λ x y free. or_open (ltb t x) (end_above y t) free;
  ones = λ x y free. or_one t x (end_above y t) late free;
}

above_quiet : (t h x : ℕ) (y : Option Moment) → h ≤ t → x ≤ h → QuietEnd h y → stamp_above t (moment.Stamp x) y ≡ false
above_quiet t h x None from low quiet = grind (arith, nat_tests)
above_quiet t h x (Some (moment.Stamp n)) from low quiet = grind (arith, nat_tests)
above_quiet t h x (Some (moment.Mark n)) from low quiet = elim quiet [ ]

above_past : (t h : ℕ) → 1 ≤ t → h ≤ t → FailsPast h (stamp_above t)
above_past t h late from = record { plain = grind (arith, nat_tests); quiet = λ x y low quiet. above_quiet t h x y from low quiet }

-- a mark of session s
abbrev mark_of : ℕ → Moment → Option Moment → Bool
mark_of s x y = begin_marked x s || end_marked y s

mark_parts : (s : ℕ) → FailsParts (mark_of s)
mark_parts s = record { plain = refl; opens = λ x y free. refl; ones = λ x y free. free }

mark_past : (s h : ℕ) → FailsPast h (mark_of s)
mark_past s h = record { plain = refl; quiet = λ x y low quiet. quiet_unmarked s h y quiet }

module _ {K R : Type 0} (number : K → ℕ) (σ : Store K R) (T : History R) (w : Whole number σ T) where
  pub above_is : (t k : ℕ) → horizon_of σ ≤ t → 1 ≤ t → above number σ t k ≡ wrote_above T.commits t k
  above_is t k from late = bool_eq (above number σ t k) (wrote_above T.commits t k) to back
    where
      to : above number σ t k ≡ false → wrote_above T.commits t k ≡ false
      to none =
          let parts = or_parts _ _ none in
          let free = tells_versions number σ k (stamp_above t) (above_parts t late) parts.1 parts.0 in
          sym ((w.rel k).stamps t from) ∙ all_none (v_above t) _ free

      back : wrote_above T.commits t k ≡ false → above number σ t k ≡ false
      back none =
          let free = none_all (v_above t) _ ((w.rel k).stamps t from ∙ none) in
          let notices = tells_notices number σ k (stamp_above t) free w (above_past t (horizon_of σ) late from) in
          rw (tells_hot number σ k (stamp_above t) free, notices)

  -- a session without marks has no writes
  pub marked_none : (s k : ℕ) → has_marks σ s ≡ false → (o : Option (Option R)) → writes_of T.turn s k ≡ o → o ≡ None
  marked_none s k none None wrote = refl
  marked_none s k none (Some v) wrote =
      let parts = or_parts (any (hot_marked s) σ.hot) (any (notice_marked s) σ.memo) none in
      let hot = all_none _ σ.hot (all_then _ _ σ.hot (none_all _ σ.hot parts.0) (λ x free. and_right _ _ free)) in
      let memo = all_none _ σ.memo (all_then _ _ σ.memo (none_all _ σ.memo parts.1) (λ x free. and_right _ _ free)) in
      let free = all_none (v_marked s) _ (tells_versions number σ k (mark_of s) (mark_parts s) memo hot) in
      let marked = has_mark (w.rel k) (w.tidy k) s v wrote in
      absurd cc

  -- and a session without writes has no marks
  pub none_marked : (s : ℕ) → ((k : ℕ) → writes_of T.turn s k ≡ None) → has_marks σ s ≡ false
  none_marked s none =
      let free : (k : ℕ) → All (Free (mark_of s)) (versions number σ k) =
      λ k. all_then _ _ (versions number σ k) (no_mark (w.rel k) s (none k)) (λ v u. rw (u.0, u.1)) in
      let hot : any (hot_marked s) σ.hot ≡ false =
      none_by_key (λ x. number x.key) (hot_marked s) σ.hot (λ k. tells_hot number σ k (mark_of s) (free k)) in
      let memo : any (notice_marked s) σ.memo ≡ false =
      none_by_key (λ n. number n.key) (notice_marked s) σ.memo
      (λ k. tells_notices number σ k (mark_of s) (free k) w (mark_past s (horizon_of σ))) in
      rw (hot, memo)
