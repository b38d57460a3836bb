use Rattle.std.proofs.Common.{arith}
use Rattle.slots.proofs.Loops.{edit_more}
use Rattle.slots.proofs.change.edit_all.Goals as goal

pub loop-x-preserved : goal.loop-x-preserved
loop-x-preserved g c e d =
    edit_more e _ c.loop-x.x-items c.loop-x.x-index (c.loop-x.invariant e d) _ _ (omega arith) c.loop-x.auto.x-items
    (d _ _ c.change.ensures)
