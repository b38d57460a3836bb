use Rattle.std.proofs.Common.{◌≡◌, ◌+◌, ◌++◌, None, vec_items}
use Rattle.text.specs.Parts.{lines}
use Rattle.records.specs.Entries.{entries, entries_left}
use Rattle.records.specs.Writing.{entries_text, count_good}
use Rattle.records.proofs.report.report.Given as goal

abbrev pub invariant-loop-entry : goal.invariant-loop-entry
invariant-loop-entry l =
    (vec_items l.out ++ entries_text (entries_left l.entry-iterator) ≡ entries_text (entries None (lines l.input)))
    × (l.count + count_good (entries_left l.entry-iterator) ≡ count_good (entries None (lines l.input)))
