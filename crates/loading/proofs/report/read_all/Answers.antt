use Rattle.std.proofs.Common.{vec_items}
use Rattle.records.specs.Entries.{entries_left}
use Rattle.loading.proofs.Whole.{read_more, read_done}
use Rattle.loading.proofs.report.read_all.Goals as goal

pub loop-entry-preserved : goal.loop-entry-preserved
loop-entry-preserved c =
    read_more (vec_items c.loop-entry.out) (vec_items c.loop-entry.records) (entries_left c.loop-entry.entry-iterator) _ c.in-Some.entry _ _
    c.in-Some.ensures.steps c.in_ok-push_entry.ensures c.in_ok-keep.ensures c.loop-entry.invariant

pub returns : goal.returns
returns c =
    let p = read_done (vec_items c.loop-entry.out) (vec_items c.loop-entry.records) (entries_left c.loop-entry.entry-iterator)
    c.in-None.ensures.steps.0 c.loop-entry.invariant in
    (p.1, p.0)
