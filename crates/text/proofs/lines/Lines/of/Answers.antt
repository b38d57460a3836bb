use Rattle.std.proofs.Common.{refl}
use Rattle.text.proofs.Cuts.{join_lines}
use Rattle.text.proofs.lines.Lines.of.Goals as goal

pub returns : goal.returns
returns c = record { all = refl; joined = join_lines c.args.input.now }
