use Rattle.std.proofs.Common.{◌≡◌, ◌++◌, map, take, drop}
use Rattle.slots.specs.Calls.{Makes}
use Rattle.slots.proofs.change.edit_all.Given as goal

-- changed up to the index, and as it was from there on
abbrev pub invariant-loop-x : goal.invariant-loop-x
invariant-loop-x g l =
    (e : g.row.T.Denot → g.row.T.Denot) → Makes (goal.E-post g l.change) e
    → l.x-items ≡ map e (take l.x-index l.initial.x-items) ++ drop l.x-index l.initial.x-items
