use Rattle.std.proofs.Common.{rules}
use Rattle.text.specs.Parts.{cut}
use Rattle.text.proofs.Cuts.{lines_empty, lines_none, cut_next}
use Rattle.text.proofs.lines.LinesIterator.next.Goals as goal

pub returns-then-is_empty-clause-steps : goal.returns-then-is_empty-clause-steps
returns-then-is_empty-clause-steps c =
    let e = lines_empty c.args.self.now.rest.now (search rules) in (e, e)

pub returns-in-Some : goal.returns-in-Some
returns-in-Some c = let e = cut_next 10 _ _ _ _ c.in-Some.ensures in record { steps = e; goes = search rules }

pub returns : goal.returns
unfolding cut
returns c =
    let e = lines_none c.args.self.now.rest.now (search rules) c.in_default.ensures in
    record { steps = e; goes = search rules }
