use Rattle.std.proofs.Common.{◌≡◌, ◌++◌, None, vec_items}
use Rattle.text.specs.Parts.{lines}
use Rattle.records.specs.Entries.{entries, entries_left}
use Rattle.records.specs.Writing.{entries_text}
use Rattle.loading.specs.Report.{goods}
use Rattle.loading.proofs.report.read_all.Given as goal

abbrev pub invariant-loop-entry : goal.invariant-loop-entry
invariant-loop-entry l =
    (vec_items l.out ++ entries_text (entries_left l.entry-iterator) ≡ vec_items l.initial.out ++ entries_text (entries None (lines l.input)))
    × (vec_items l.records ++ goods (entries_left l.entry-iterator) ≡ goods (entries None (lines l.input)))
