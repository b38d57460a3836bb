use Rattle.std.proofs.Common.{ap}
use Rattle.cold.specs.Sorted.{table}
use Rattle.cold.proofs.Meaning.{order_none}
use Rattle.cold.proofs.sorted.SortedStore.new.Goals as goal

-- an empty table is in order
pub invariant_of-result-clause-ordered : goal.invariant_of-result-clause-ordered
invariant_of-result-clause-ordered g c = order_none _ (ap (table g.K.Key.number) c.in_ok-items.ensures.items)
