-- Put and drop on the session's own unfinished version: its row is replaced, or it is taken out.
use Rattle.std.proofs.Common.{◌≡◌, ℕ, Bool, true, false, cond, eqb, List, [], ◌∷◌, ◌++◌, Some, None, Option, sym, refl, ap, ◌∙◌, inl, inr}
use Rattle.std.proofs.lemmas.Bool.{cases_Bool, and_parts}
use Rattle.rules.specs.declared.times.Moment.TheVariants as moment
use Rattle.rules.specs.declared.tables.HotRow.{HotRow}
use Rattle.rules.specs.Selling.{hot_own, with_row, replace_own, drop_own}
use Rattle.rules.specs.Stores.{Store, horizon_of}
use Rattle.rules.specs.Times.{begin_marked}
use Rattle.slots.specs.Lists.{first, any, at_first, kept, one}
use Rattle.slots.proofs.Folds.{Spot, spot, first_some}
use Rattle.slots.proofs.Edits.{kept_miss, kept_calm, kept_it}
use Rattle.versions.specs.History.{History, puts, drops, had}
use Rattle.versions.proofs.Versions.{Version, v_begun, rows, Rel, put_of, writes_of}
use Rattle.versions.proofs.OneVersion.{rows_some}
use Rattle.versions.proofs.Writing.{Ready}
use Rattle.versions.proofs.Edits.{rel_own_put, rel_own_drop}
use Rattle.cells.proofs.Cells.{row_version, mover, Sound, Whole}
use Rattle.cells.proofs.Shapes.{cell_eq, under_move, few_movers}
use Rattle.cells.proofs.Writes.{MayWrite, written, whole_write, ready}
use Rattle.cells.proofs.HotEdits.{front, back, around, around_set, around_out, others_set, others_out}

was_put : {R : Type 0} (o : Option (Option R)) (q : R) → put_of o ≡ Some q → o ≡ Some (Some q)
was_put None q h = absurd cc
was_put (Some u) q h = ap Some h

was_had : {R : Type 0} (t : Bool) → cond {A = Option (Option R)} t (Some None) None ≡ Some None → t ≡ true
was_had true h = refl
was_had false h = absurd cc

module _ {K R : Type 0} (number : K → ℕ) {σ : Store K R} {T : History R} {s : ℕ} {key : K} (m : MayWrite number σ T s key)
    (x : HotRow K R) (is : first (hot_own number s (number key)) σ.hot ≡ Some x) where
  abbrev k : ℕ
  k = number key

  at : Spot (hot_own number s k) σ.hot x
  at = spot (hot_own number s k) σ.hot x is

  its : eqb (number x.key) k ≡ true
  its = (and_parts (eqb (number x.key) k) (begin_marked x.begin s) at.passes).0

  own : begin_marked x.begin s ≡ true
  own = (and_parts (eqb (number x.key) k) (begin_marked x.begin s) at.passes).1

  -- the versions of the key before and behind that of x
  abbrev before : List (Version R)
  before = front number σ k at its

  abbrev behind : List (Version R)
  behind = back number σ k at its

  -- the session has put the key
  pub has_put : (q : R) × (writes_of T.turn s k ≡ Some (Some q))
  has_put =
      let some =
      rows_some before (row_version x) behind (v_begun s) (put_of (writes_of T.turn s k)) own
      (ap (rows (v_begun s)) (sym (around number σ k at its)) ∙ (m.whole.rel k).begun s) in
      (some.0, was_put (writes_of T.turn s k) some.0 some.1)

  -- an own row is not on the move
  still : (j tag : ℕ) → mover number j tag x ≡ false
  still j tag = elim (cases_Bool (mover number j tag x)) [
    | inl t ↦ absurd (
        let cell = m.whole.sound.cells j tag in
        let lone = kept_it at (mover number j tag) t (few_movers _ _ _ _ cell) in
        let begun = under_move _ _ _ _ x cell lone in
        let stamped : begin_marked (moment.Stamp begun.stamp) s ≡ true = ap (λ z. begin_marked z s) (sym begun.begins) ∙ own in
        cc)
    | inr t ↦ t
  ]

  own_sound : (f : HotRow K R → List (HotRow K R)) → ((j tag : ℕ) → kept (mover number j tag) (f x) ≡ [])
      → Sound number (horizon_of σ) σ.last_tag σ.admits (at_first (hot_own number s k) f σ.hot) σ.memo σ.cold
  own_sound f none = record {
    cells = λ j tag.
        cell_eq refl refl (kept_calm at (mover number j tag) f (none j tag ∙ sym (kept_miss (mover number j tag) x (still j tag))))
        (m.whole.sound.cells j tag);
    unused = m.whole.sound.unused;
    known = m.whole.sound.known;
  }

  split : Ready (horizon_of σ) σ.clock T.commits T.turn k s (before ++ (row_version x ∷ behind))
  split = rw (around number σ k at its) at (ready number m)

  whole_replace : (row : R) → Whole number (replace_own number σ s key row) (puts T s k row)
  whole_replace row =
      let f : HotRow K R → List (HotRow K R) = λ z. one (with_row row z) in
      let put : Rel (horizon_of σ) T.commits (puts T s k row).turn k (before ++ (row_version (with_row row x) ∷ behind)) =
      rel_own_put before (row_version x) behind split has_put.0 own has_put.1 row (written number m (Some (Some row))) in
      whole_write number m (Some (Some row)) (λ h. absurd cc) _ _
      (own_sound f (λ j tag. kept_miss (mover number j tag) (with_row row x) (still j tag)))
      (rw (around_set number σ k at its f (with_row row x) refl refl) put)
      (others_set number σ k at its f (with_row row x) refl refl)

  whole_out : Whole number (drop_own number σ s key) (drops T s k)
  unfolding kept
  whole_out =
      let v : Option (Option R) = cond (had T s k) (Some None) None in
      let gone : Rel (horizon_of σ) T.commits (drops T s k).turn k (before ++ behind) =
      rel_own_drop before (row_version x) behind split has_put.0 own has_put.1 (written number m v) in
      whole_write number m v (was_had (had T s k)) _ _
      (own_sound (λ z. []) (λ j tag. refl))
      (rw (around_out number σ k at its (λ z. []) refl) gone)
      (others_out number σ k at its (λ z. []) refl)

module _ {K R : Type 0} (number : K → ℕ) {σ : Store K R} {T : History R} {s : ℕ} {key : K} (m : MayWrite number σ T s key)
    (has : any (hot_own number s (number key)) σ.hot ≡ true) where
  pub whole_replaced : (row : R) → Whole number (replace_own number σ s key row) (puts T s (number key) row)
  whole_replaced row = let x = first_some _ σ.hot has in whole_replace number m x.0 x.1 row

  pub whole_taken_out : Whole number (drop_own number σ s key) (drops T s (number key))
  whole_taken_out = let x = first_some _ σ.hot has in whole_out number m x.0 x.1

  pub own_put : (q : R) × (writes_of T.turn s (number key) ≡ Some (Some q))
  own_put = let x = first_some _ σ.hot has in has_put number m x.0 x.1
