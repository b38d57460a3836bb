use Rattle.std.proofs.Common.{◌≡◌, Bool, drop}
use Rattle.slots.specs.Calls.{Decides}
use Rattle.slots.specs.Lists.{hit, hit_from}
use Rattle.slots.proofs.search.find_first.Given as goal

-- what is left gives the answer
abbrev pub invariant-loop-at : goal.invariant-loop-at
invariant-loop-at g l =
    (p : g.row.T.Denot → Bool) → Decides (goal.P-post g l.test) p → hit_from p l.at (drop l.at l.list) ≡ hit p l.list
