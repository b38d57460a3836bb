-- Ending a hot row that a session sees: it gets the session's mark as its end, and is no longer on the move.
use Rattle.std.proofs.Common.{◌≡◌, ℕ, false, eqb, List, [], Some, None, sym, refl, ◌∙◌, inl, inr}
use Rattle.std.proofs.lemmas.Bool.{cases_Bool, and_parts, and_right}
use Rattle.rules.specs.declared.tables.HotRow.{HotRow}
use Rattle.rules.specs.Looking.{hot_sees}
use Rattle.rules.specs.Selling.{end_row}
use Rattle.rules.specs.Stores.{Store, with_hot}
use Rattle.rules.specs.Times.{sees}
use Rattle.slots.specs.Lists.{first, at_first, kept, one}
use Rattle.slots.proofs.Folds.{spot}
use Rattle.slots.proofs.Edits.{kept_miss, kept_calm, kept_change}
use Rattle.versions.specs.History.{History, turn_read}
use Rattle.versions.proofs.Versions.{writes_of}
use Rattle.cells.proofs.Cells.{row_version, mover}
use Rattle.cells.proofs.Shapes.{clear, few_movers, cell_eq}
use Rattle.cells.proofs.Writes.{MayWrite, Freed, freed_by}
use Rattle.cells.proofs.HotEdits.{front, back, around, around_set, others_set}

module _ {K R : Type 0} (number : K → ℕ) {σ : Store K R} {T : History R} {s : ℕ} {key : K} (m : MayWrite number σ T s key)
    (unwritten : writes_of T.turn s (number key) ≡ None) where
  abbrev k : ℕ
  k = number key

  abbrev time : ℕ
  time = turn_read (T.turn s)

  pub freed_hot : (x : HotRow K R) → first (hot_sees number s time k) σ.hot ≡ Some x
      → Freed number T s key (with_hot σ (at_first (hot_sees number s time k) (λ z. one (end_row s z)) σ.hot)) (Some None)
  freed_hot x is =
      let f : HotRow K R → List (HotRow K R) = λ z. one (end_row s z) in
      let at = spot (hot_sees number s time k) σ.hot x is in
      let q = and_parts (eqb (number x.key) k) (sees x.begin x.end s time) at.passes in
      let unmoved : (j tag : ℕ) → kept (mover number j tag) (one (end_row s x)) ≡ [] =
      λ j tag. kept_miss (mover number j tag) (end_row s x) (and_right (eqb (number x.key) j) false refl) in
      freed_by number m _ σ.memo (front number σ k at q.0) (row_version x) (back number σ k at q.0)
      (around number σ k at q.0) (around_set number σ k at q.0 f (end_row s x) refl refl) q.1 unwritten
      (record {
        cells = λ j tag. elim (cases_Bool (mover number j tag x)) [
          | inl t ↦
              cell_eq refl refl (kept_change at (mover number j tag) f t (few_movers _ _ _ _ (m.whole.sound.cells j tag)) ∙ unmoved j tag)
              (clear _ _ _ _ (m.whole.sound.cells j tag))
          | inr t ↦
              cell_eq refl refl (kept_calm at (mover number j tag) f (unmoved j tag ∙ sym (kept_miss (mover number j tag) x t)))
              (m.whole.sound.cells j tag)
        ];
        unused = m.whole.sound.unused;
        known = m.whole.sound.known;
      })
      (others_set number σ k at q.0 f (end_row s x) refl refl)
