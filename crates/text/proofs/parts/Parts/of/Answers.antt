use Rattle.std.proofs.Common.{refl}
use Rattle.text.proofs.Cuts.{join_split}
use Rattle.text.proofs.parts.Parts.of.Goals as goal

pub returns : goal.returns
returns c = record { all = refl; joined = join_split c.args.at c.args.text.now }
