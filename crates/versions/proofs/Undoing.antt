-- Abandon: the versions that session s began go, and the ends with its mark are open again. A reader without marks tells
-- no change.
use Rattle.std.proofs.Common.{◌≡◌, ℕ, ◌≤◌, Bool, true, false, cond, not, ◌&&◌, ◌||◌, eqb, List, [], ◌∷◌, Some, None, Option, refl, ap, ◌∙◌, inl, inr, append-nil, arith}
use Rattle.std.specs.List.{AllByRecursion as All}
use Rattle.std.proofs.lemmas.Bool.{cases_Bool}
use Rattle.std.proofs.lemmas.Bool.Decides.{nat_tests}
use Rattle.rules.specs.declared.times.Moment.{Moment}
use Rattle.rules.specs.declared.times.Moment.TheVariants as moment
use Rattle.rules.specs.Times.{begin_marked, end_marked, begin_above, end_above, reopen}
use Rattle.slots.specs.Lists.{any, one, each, one_if}
use Rattle.slots.proofs.Folds.{any_same, all_none, all_then, all_every, each_same, each_each, any_each, all_each, any_unless}
use Rattle.versions.specs.History.{Commit, Turn, upd}
use Rattle.versions.proofs.Versions.{Version, Shaped, plain_begun, plain_ended, v_plain, v_begun, v_ended}
use Rattle.versions.proofs.Versions.{v_above, VShaped, rows, read_of, writes_of, Rel, Tidy}
use Rattle.versions.proofs.Rows.{rows_same, rows_none}
use Rattle.versions.proofs.Same.{SameAt, rel_same}
use Rattle.versions.proofs.Marks.{NoMark, OnlyMark, own_mark, no_mark, only_mark, OnlyBegin, OnlyEnd, only_begin, only_end}
use Rattle.versions.proofs.Closing.{rel_unwritten, closed_same, none_left, tidy_closed}

module _ {R : Type 0} where
  -- a version with its end open again if s had marked it
  abbrev reopened : ℕ → Version R → Version R
  reopened s v = record { begin = v.begin; end = reopen s v.end; row = v.row }

  abbrev pub undo_version : ℕ → Version R → List (Version R)
  undo_version s v = cond (begin_marked v.begin s) [] (one (reopened s v))

-- ends, reopened
module _ (s : ℕ) where
  -- an end without a mark of s stays as it is
  pub end_kept : (y : Option Moment) → end_marked y s ≡ false → reopen s y ≡ y
  end_kept None none = refl
  end_kept (Some x) none = rw none

  -- no reader without marks tells it, and stamps stay as they are
  ended_same : (t : ℕ) (y : Option Moment) → plain_ended t (reopen s y) ≡ plain_ended t y
  ended_same t None = refl
  ended_same t (Some (moment.Stamp n)) = refl
  ended_same t (Some (moment.Mark n)) = grind (arith, nat_tests)

  above_same : (t : ℕ) (y : Option Moment) → end_above (reopen s y) t ≡ end_above y t
  above_same t None = refl
  above_same t (Some (moment.Stamp n)) = refl
  above_same t (Some (moment.Mark n)) = grind (arith, nat_tests)

  -- no mark is left, if there is no other session's
  end_unmarked : (y : Option Moment) → OnlyEnd s y → (m : ℕ) → end_marked (reopen s y) m ≡ false
  end_unmarked None only m = refl
  end_unmarked (Some (moment.Stamp n)) only m = refl
  end_unmarked (Some (moment.Mark n)) only m = let own = own_mark n s only in grind (arith, nat_tests)

  shaped_reopened : (x : Moment) (y : Option Moment) → Shaped x y → Shaped x (reopen s y)
  shaped_reopened (moment.Stamp n) None shaped = tt
  shaped_reopened (moment.Stamp n) (Some (moment.Stamp m)) shaped = shaped
  shaped_reopened (moment.Stamp n) (Some (moment.Mark m)) shaped = elim (cases_Bool (eqb m s)) [ inl its ↦ rw its tt | inr other ↦ rw other tt ]
  shaped_reopened (moment.Mark n) None shaped = tt
  shaped_reopened (moment.Mark n) (Some x) shaped = elim shaped [ ]

-- versions, undone
module _ {R : Type 0} (s : ℕ) where
  -- versions without a mark of s stay as they are
  all_kept : (V : List (Version R)) → All (NoMark s) V → each (undo_version s) V ≡ V
  unfolding each
  all_kept [] none = refl
  all_kept (v ∷ V) none = rw (none.0.0, end_kept s v.end none.0.1) (ap (λ z. v ∷ z) (all_kept V none.1))

  -- a test of what is left of a version
  abbrev left : (Version R → Bool) → Version R → Bool
  left p v = not (v_begun s v) && p (reopened s v)

  rows_unless : (p : Version R → Bool) (t : Bool) (v : Version R) → rows p (cond t [] (one v)) ≡ one_if (not t && p v) v.row
  unfolding each
  rows_unless p true v = refl
  rows_unless p false v = append-nil (one_if (p v) v.row)

  rows_undone : (p : Version R → Bool) (V : List (Version R)) → rows p (each (undo_version s) V) ≡ rows (left p) V
  rows_undone p V =
      each_each (λ v. one_if (p v) v.row) (undo_version s) V
      ∙ each_same _ _ V (all_every _ V (λ v. rows_unless p (v_begun s v) (reopened s v)))

  any_undone : (p : Version R → Bool) (V : List (Version R)) → any p (each (undo_version s) V) ≡ any (left p) V
  any_undone p V = any_each p (undo_version s) V ∙ any_same _ _ V (all_every _ V (λ v. any_unless p (v_begun s v) (reopened s v)))

  -- what s began nobody else saw, and it had no stamp
  plain_left : (t : ℕ) (v : Version R) → left (v_plain t) v ≡ v_plain t v
  plain_left t v = rw (ended_same s t v.end) (go v.begin (plain_ended t v.end))
    where
      go : (x : Moment) (over : Bool) → (not (begin_marked x s) && (plain_begun t x && not over)) ≡ (plain_begun t x && not over)
      go (moment.Stamp n) over = refl
      go (moment.Mark n) over = grind arith

  above_left : (t : ℕ) (v : Version R) → VShaped v → left (v_above t) v ≡ v_above t v
  above_left t v shaped = rw (above_same s t v.end) (go v.begin v.end shaped)
    where
      go : (x : Moment) (y : Option Moment) → Shaped x y
          → (not (begin_marked x s) && (begin_above x t || end_above y t)) ≡ (begin_above x t || end_above y t)
      go (moment.Stamp n) y shaped = refl
      go (moment.Mark n) None shaped = grind arith
      go (moment.Mark n) (Some z) shaped = elim shaped [ ]

  -- no mark is left, if there is no other session's
  begun_left : (m : ℕ) (v : Version R) → OnlyMark s v → left (v_begun m) v ≡ false
  begun_left m v only = go v.begin (only_begin s v only)
    where
      go : (x : Moment) → OnlyBegin s x → (not (begin_marked x s) && begin_marked x m) ≡ false
      go (moment.Stamp n) only = refl
      go (moment.Mark n) only = let own = own_mark n s only in grind (arith, nat_tests)

  ended_left : (m : ℕ) (v : Version R) → OnlyMark s v → left (v_ended m) v ≡ false
  ended_left m v only = let none = end_unmarked s v.end (only_end s v only) m in grind arith

  shaped_left : (v : Version R) → VShaped v → All VShaped (undo_version s v)
  shaped_left v shaped = elim (cases_Bool (v_begun s v)) [
    | inl its ↦ rw its tt
    | inr other ↦ rw other (shaped_reopened s v.begin v.end shaped, tt)
  ]

-- session s abandons, and the horizon may rise
module _ {R : Type 0} {h c : ℕ} {cs : List (Commit R)} {turn : ℕ → Option (Turn R)} {k : ℕ} (tidy : Tidy h c cs turn k) (s : ℕ) where
  -- if it had no write on the key, the history says of the key what it said
  same_after : writes_of turn s k ≡ None → SameAt cs cs turn (upd turn s None) k
  same_after none = closed_same s none (λ t. refl) (λ t. refl)

  pub tidy_abandon : {h' : ℕ} → h' ≤ c
      → ((m : ℕ) (w : Option R) → writes_of turn m k ≡ Some w → (m ≡ s → ⊥) → h' ≤ read_of turn m)
      → Tidy h' c cs (upd turn s None) k
  tidy_abandon low reads = tidy_closed tidy s same_after low (omega arith) tidy.past reads

  pub rel_abandon : {h' : ℕ} {V : List (Version R)} → Rel h cs turn k V → h ≤ h'
      → Rel h' cs (upd turn s None) k (each (undo_version s) V)
  rel_abandon {h'} {V} rel up = go (writes_of turn s k) refl
    where
      go : (o : Option (Option R)) → writes_of turn s k ≡ o → Rel h' cs (upd turn s None) k (each (undo_version s) V)
      go None none = rw (all_kept s V (no_mark rel s none)) (rel_same (same_after none) up rel)
      go (Some w) wrote =
          let only = only_mark tidy rel s w wrote in
          rel_unwritten (none_left tidy s w wrote)
          (λ t l. rows_undone s (v_plain t) V ∙ (rows_same _ _ V (all_every _ V (plain_left s t)) ∙ rel.plain t (omega arith)))
          (λ m. rows_undone s (v_begun m) V ∙ rows_none _ V (all_then _ _ V only (begun_left s m)))
          (λ m. any_undone s (v_ended m) V ∙ all_none _ V (all_then _ _ V only (ended_left s m)))
          (λ t l. any_undone s (v_above t) V
          ∙ (any_same _ _ V (all_then _ _ V rel.shaped (above_left s t)) ∙ rel.stamps t (omega arith)))
          (all_each VShaped (undo_version s) V (all_then _ _ V rel.shaped (shaped_left s)))
