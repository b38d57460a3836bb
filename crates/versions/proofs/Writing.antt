-- A session writes a key: the frame that a put and a drop have in common. What is to be shown is how the versions change
-- for the session itself; the rest follows, since nothing foreign stands on the key.
use Rattle.std.proofs.Common.{◌≡◌, ℕ, ◌≤◌, true, false, ◌&&◌, List, is_some, Some, None, Option, sym, ap, ◌∙◌, subst, inl, inr}
use Rattle.std.proofs.lemmas.Option.{none-some}
use Rattle.std.specs.List.{AllByRecursion as All}
use Rattle.std.proofs.lemmas.Bool.{cases_eq}
use Rattle.slots.specs.Lists.{any, list_of}
use Rattle.slots.proofs.Folds.{all_none, all_then}
use Rattle.versions.specs.History.{Commit, Turn, shown, turn_writes, turn_read}
use Rattle.versions.proofs.Versions.{Version, v_plain, v_sees, v_begun, v_ended, v_above, VShaped, rows}
use Rattle.versions.proofs.Versions.{put_of, wrote_above, read_of, writes_of, had_at, Rel, Tidy}
use Rattle.versions.proofs.Rows.{none_unless, rows_same}
use Rattle.versions.proofs.Marks.{v_marked, has_mark}
use Rattle.versions.proofs.Seeing.{CalmFor, sees_later, calm_only, calm_low}

-- session s may write key k: its read time is from the horizon to the clock, and nothing foreign to it stands on the key
pub record Ready {R : Type 0} (h c : ℕ) (cs : List (Commit R)) (turn : ℕ → Option (Turn R)) (k s : ℕ)
    (V : List (Version R)) : Type 0 where
  pub tidy : Tidy h c cs turn k
  pub rel : Rel h cs turn k V
  pub from : h ≤ read_of turn s
  pub upto : read_of turn s ≤ c
  pub calm : All (CalmFor s (read_of turn s)) V

-- session s now has w on k, and all else is as it was
pub record Wrote {R : Type 0} (turn next : ℕ → Option (Turn R)) (s k : ℕ) (w : Option (Option R)) : Type 0 where
  pub its : writes_of next s k ≡ w
  pub read : read_of next s ≡ read_of turn s
  pub others : (m : ℕ) → (m ≡ s → ⊥) → next m ≡ turn m

-- the versions U are V with the write w: as `Rel` has it for s, and for all others as it was
pub record Change {R : Type 0} (cs : List (Commit R)) (turn : ℕ → Option (Turn R)) (k s : ℕ)
    (w : Option (Option R)) (V U : List (Version R)) : Type 0 where
  pub plain : (t : ℕ) → rows (v_plain t) U ≡ rows (v_plain t) V
  pub mine : (x : Option R) → w ≡ Some x → (t : ℕ) → read_of turn s ≤ t → rows (v_sees s t) U ≡ list_of x
  pub begun : rows (v_begun s) U ≡ list_of (put_of w)
  pub begun_else : (m : ℕ) → (m ≡ s → ⊥) → rows (v_begun m) U ≡ rows (v_begun m) V
  pub ended : any (v_ended s) U ≡ (is_some w && had_at cs turn s k)
  pub ended_else : (m : ℕ) → (m ≡ s → ⊥) → any (v_ended m) U ≡ any (v_ended m) V
  pub stamps : (t : ℕ) → any (v_above t) U ≡ any (v_above t) V
  pub shaped : All VShaped U

module _ {R : Type 0} {h c : ℕ} {cs : List (Commit R)} {turn : ℕ → Option (Turn R)} {k s : ℕ} {V : List (Version R)}
    (ready : Ready h c cs turn k s V) where
  abbrev time : ℕ
  time = read_of turn s

  -- no other session has a write on the key, and no commit wrote it since
  pub no_other : (m : ℕ) → (m ≡ s → ⊥) → writes_of turn m k ≡ None
  no_other m ne = none_unless (writes_of turn m k) (λ w wrote.
      let marked = has_mark ready.rel ready.tidy m w wrote in
      let unmarked : any (v_marked m) V ≡ false =
      all_none _ V (all_then _ _ V ready.calm (λ v calm. let none = calm_only s time v calm m ne in rw (none.0, none.1))) in
      cc)

  pub none_since : wrote_above cs time k ≡ false
  none_since = sym (ready.rel.stamps time ready.from) ∙ all_none _ V (all_then _ _ V ready.calm (calm_low s time))

  -- what the session sees stays the same
  pub still : (t : ℕ) → time ≤ t → rows (v_sees s t) V ≡ rows (v_sees s time) V
  still t le = rows_same _ _ V (all_then _ _ V ready.calm (sees_later s time t le))

  module _ {next : ℕ → Option (Turn R)} {w : Option (Option R)} (wrote : Wrote turn next s k w) where
    no_other_next : (m : ℕ) → (m ≡ s → ⊥) → writes_of next m k ≡ None
    no_other_next m ne = ap (λ x. turn_writes x k) (wrote.others m ne) ∙ no_other m ne

    -- who has a write is s, and it is w
    only_writer : (m : ℕ) (x : Option R) → writes_of next m k ≡ Some x → m ≡ s
    only_writer m x p = elim (cases_eq m s) [ inl it ↦ it | inr other ↦ absurd (none-some _ (sym (no_other_next m other) ∙ p)) ]

    its_write : (m : ℕ) (x : Option R) → m ≡ s → writes_of next m k ≡ Some x → w ≡ Some x
    its_write m x it p = sym wrote.its ∙ (ap (λ z. writes_of next z k) (sym it) ∙ p)

    pub tidy_wrote : (w ≡ Some None → had_at cs turn s k ≡ true) → Tidy h c cs next k
    tidy_wrote had = record {
      past = ready.tidy.past;
      low = ready.tidy.low;
      lone = λ m u x y p q. only_writer m x p ∙ sym (only_writer u y q);
      newest = λ m x p.
          subst (λ z. wrote_above cs (read_of next z) k ≡ false) (sym (only_writer m x p)) (rw wrote.read none_since);
      dropped = λ m p.
          let it = only_writer m None p in
          subst (λ z. had_at cs next z k ≡ true) (sym it) (rw wrote.read (had (its_write m None it p)));
      reads = λ m x p.
          subst (λ z. (h ≤ read_of next z) × (read_of next z ≤ c)) (sym (only_writer m x p))
          (rw wrote.read (ready.from, ready.upto));
    }

    pub rel_wrote : {U : List (Version R)} → Change cs turn k s w V U → Rel h cs next k U
    rel_wrote {U} change = record {
      plain = λ t l. change.plain t ∙ ready.rel.plain t l;
      mine = λ m x p t l.
          let it = only_writer m x p in
          let seen = change.mine x (its_write m x it p) t (rw (it, wrote.read) at l) in
          subst (λ z. rows (v_sees z t) U ≡ list_of x) (sym it) seen;
      begun = λ m. elim (cases_eq m s) [
        | inl it ↦
            subst (λ z. rows (v_begun z) U ≡ list_of (put_of (writes_of next z k))) (sym it)
            (change.begun ∙ ap (λ x. list_of (put_of x)) (sym wrote.its))
        | inr other ↦
            change.begun_else m other
            ∙ (ready.rel.begun m ∙ ap (λ x. list_of (put_of (turn_writes x k))) (sym (wrote.others m other)))
      ];
      ended = λ m. elim (cases_eq m s) [
        | inl it ↦
            subst (λ z. any (v_ended z) U ≡ (is_some (writes_of next z k) && had_at cs next z k)) (sym it)
            (rw (wrote.its, wrote.read) change.ended)
        | inr other ↦
            change.ended_else m other
            ∙ (ready.rel.ended m
            ∙ ap (λ x. is_some (turn_writes x k) && is_some (shown cs (turn_read x) k)) (sym (wrote.others m other)))
      ];
      stamps = λ t l. change.stamps t ∙ ready.rel.stamps t l;
      shaped = change.shaped;
    }
