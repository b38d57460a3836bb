-- A store has at most as many entries as cells.
use Rattle.std.specs.Prelude.{ℕ, ◌≤◌, List, length}
use Rattle.std.proofs.Common.{arith}
use Rattle.blocks.specs.Cells.{cells, entries_of}
use Rattle.blocks.specs.Gather.{gathered_few}
use Rattle.blocks.specs.Effects.{length_cells}

pub few_cells : {R : Type 0} (unpacked : List ℕ → R) (limit : ℕ) (xs : List ℕ) → length (entries_of unpacked limit xs) ≤ limit
few_cells unpacked limit xs =
    let few = gathered_few (cells unpacked limit xs) in
    let all = length_cells unpacked limit xs in
    omega (arith, few, all)
