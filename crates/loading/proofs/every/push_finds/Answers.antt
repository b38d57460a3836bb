use Rattle.std.proofs.Common.{vec_items}
use Rattle.loading.proofs.Loops.{finds_more, finds_done}
use Rattle.loading.proofs.every.push_finds.Goals as goal

pub loop-read-preserved : goal.loop-read-preserved
loop-read-preserved g c =
    finds_more (g.F.Filter.admitted c.args.sorted.now.filter.now) (g.A.ColdStore.entries c.args.sorted.now.store.now)
    (g.G.Filter.admitted c.args.blocks.now.filter.now) (g.B.ColdStore.entries c.args.blocks.now.store.now)
    c.args.records.now c.loop-read.read-index (vec_items c.loop-read.out) c.read-item.result
    c.find_row-in_sorted.result c.find_row-in_blocks.result _
    c.loop-read-test.true c.read-item.is c.find_row-in_sorted.ensures c.find_row-in_blocks.ensures
    c.in_ok-push_find.ensures c.loop-read.invariant

pub returns : goal.returns
returns g c =
    finds_done (g.F.Filter.admitted c.args.sorted.now.filter.now) (g.A.ColdStore.entries c.args.sorted.now.store.now)
    (g.G.Filter.admitted c.args.blocks.now.filter.now) (g.B.ColdStore.entries c.args.blocks.now.store.now)
    c.args.records.now c.loop-read.read-index (vec_items c.loop-read.out) c.loop-read-test.false c.loop-read.invariant
