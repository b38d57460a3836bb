-- Giving up a move clears the row's move mark: its cell is left without a row on the move, and no version changes.
use Rattle.std.proofs.Common.{◌≡◌, ℕ, Bool, false, eqb, List, [], Some, sym, refl, ◌∙◌, inl, inr}
use Rattle.std.proofs.lemmas.Bool.{cases_Bool, and_right}
use Rattle.rules.specs.declared.tables.HotRow.{HotRow}
use Rattle.rules.specs.declared.tables.MoveMark.TheVariants.{Unmoved}
use Rattle.rules.specs.Moving.{with_mark, row_bears}
use Rattle.rules.specs.Stores.{Store, with_hot}
use Rattle.slots.specs.Lists.{first, at_first, kept, one}
use Rattle.slots.proofs.Folds.{spot}
use Rattle.slots.proofs.Edits.{kept_miss, kept_calm, kept_change, each_calm}
use Rattle.versions.specs.History.{History}
use Rattle.cells.proofs.Cells.{mover, hot_version, Whole}
use Rattle.cells.proofs.OneCell.{whole_with}
use Rattle.cells.proofs.Shapes.{few_movers, clear}

module _ {K R : Type 0} (number : K → ℕ) where
  abbrev unmoved : HotRow K R → List (HotRow K R)
  unmoved x = one (with_mark Unmoved x)

  -- it is on the move in no cell
  no_mover : (k tag : ℕ) (x : HotRow K R) → kept (mover number k tag) (unmoved x) ≡ []
  no_mover k tag x = kept_miss (mover number k tag) (with_mark Unmoved x) (and_right (eqb (number x.key) k) false refl)

  pub whole_give_up : (σ : Store K R) (T : History R) (tag : ℕ) (x : HotRow K R) → Whole number σ T
      → first (row_bears tag) σ.hot ≡ Some x → Whole number (with_hot σ (at_first (row_bears tag) unmoved σ.hot)) T
  whole_give_up σ T tag x w is =
      let place = spot (row_bears tag) σ.hot x is in
      whole_with number σ T (at_first (row_bears tag) unmoved σ.hot) σ.memo σ.cold σ.admits σ.last_tag w w.tags
      (record {
        cells = λ k t.
            let moves : HotRow K R → Bool = mover number k t in
            let cell = w.sound.cells k t in
            elim (cases_Bool (moves x)) [
              | inl its ↦
                  rw (kept_change place moves unmoved its (few_movers _ _ _ _ cell), no_mover k t x) (clear _ _ _ _ cell)
              | inr other ↦ rw (kept_calm place moves unmoved (no_mover k t x ∙ sym (kept_miss moves x other))) cell
            ];
        unused = w.sound.unused;
        known = w.sound.known;
      })
      (λ k. rw (each_calm place (hot_version number k) (with_mark Unmoved x) unmoved refl refl) (w.rel k))
