use Rattle.std.proofs.Common.{◌≡◌, ap, ◌∙◌, is_ok, arith}
use mir.Val.{bool_byte}
use Rattle.records.specs.Entries.{entries_left}
use Rattle.records.proofs.Rising.{count_fits}
use Rattle.records.proofs.Totals.{entry_room, entry_more, entry_all}
use Rattle.records.proofs.report.report.Goals as goal

pub overflow_add-count : goal.overflow_add-count
overflow_add-count c =
    let g : c.from-count.result ≡ bool_byte (is_ok c.in-Some.entry) = c.from-count.ensures ∙ ap bool_byte c.is_ok.ensures.value in
    let room = entry_room c.loop-entry.count (entries_left c.loop-entry.entry-iterator) _ c.in-Some.entry c.in-Some.ensures.steps
    c.loop-entry.invariant.1 in
    omega (arith, count_fits c.args.input.now)

pub loop-entry-preserved : goal.loop-entry-preserved
loop-entry-preserved c =
    let g : c.from-count.result ≡ bool_byte (is_ok c.in-Some.entry) = c.from-count.ensures ∙ ap bool_byte c.is_ok.ensures.value in
    rw g (entry_more _ c.loop-entry.count (entries_left c.loop-entry.entry-iterator) _ c.in-Some.entry _ c.in-Some.ensures.steps
    c.in_ok-push_entry.ensures c.loop-entry.invariant)

pub returns-clause-text : goal.returns-clause-text
returns-clause-text c =
    entry_all _ c.loop-entry.count (entries_left c.loop-entry.entry-iterator) _ c.in-None.ensures.steps.0
    c.in_ok-push_summary.ensures c.loop-entry.invariant
