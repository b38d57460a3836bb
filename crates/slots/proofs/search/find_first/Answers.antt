use Rattle.std.proofs.Common.{ap, ◌∙◌, arith}
use Rattle.slots.specs.Lists.{hit}
use Rattle.slots.proofs.Loops.{seek_here, seek_more, seek_all}
use Rattle.slots.proofs.search.find_first.Goals as goal

pub returns-then-passes : goal.returns-then-passes
returns-then-passes g c p d =
    seek_here p c.listed-list.result.now c.loop-at.at (c.loop-at.invariant p d) c.index-list-at.result c.loop-at-test.true c.index-list-at.is
    (d _ _ c.if-passes.ensures)
    ∙ ap (hit p) c.listed-list.ensures

pub loop-at-preserved : goal.loop-at-preserved
loop-at-preserved g c p d =
    seek_more p c.listed-list.result.now c.loop-at.at (c.loop-at.invariant p d) c.index-list-at.result c.loop-at-test.true c.index-list-at.is
    (d _ _ c.if-passes.ensures)

pub returns : goal.returns
returns g c p d =
    seek_all p c.listed-list.result.now c.loop-at.at (c.loop-at.invariant p d) (omega arith) ∙ ap (hit p) c.listed-list.ensures
