use Rattle.std.proofs.Common.{Bool, ◌≤◌}
use Rattle.std.proofs.lemmas.List.Filters.{FiltersInPlace}
use Rattle.slots.specs.Calls.{Decides}
use Rattle.slots.proofs.count.retain.Given as goal

abbrev pub invariant-loop-i : goal.invariant-loop-i
invariant-loop-i g l =
    (l.n ≤ l.i)
    × ((p : g.row.T.Denot → Bool) → Decides (goal.P-post g l.test) p → FiltersInPlace p l.initial.slots l.slots l.n l.i)
