use Rattle.std.proofs.Common.{rules}
use Rattle.text.specs.Parts.{lines_left}
use Rattle.records.proofs.Rising.{entries_none, entries_more}
use Rattle.records.proofs.entries.EntriesIterator.next.Goals as goal

pub returns-in_err-line-clause-steps : goal.returns-in_err-line-clause-steps
returns-in_err-line-clause-steps c =
    let s = c.in_err-line.ensures.steps in
    rw c.from_residual.ensures (entries_none c.args.self.now.last _ s.0, entries_none c.args.self.now.last _ s.1)

pub returns : goal.returns
returns c =
    let e = entries_more c.args.self.now.last c.last_after-self.result (lines_left c.args.self.now.lines) _ _ c.read_entry-entry.result
    c.in_ok-line.ensures.steps c.read_entry-entry.ensures c.last_after-self.ensures in
    record { steps = e; goes = search rules }
