use Rattle.law.proofs.Theorem.{the_law}
use Rattle.law.proofs.law_stands.Goals as goal

pub returns : goal.returns
returns g c = the_law _ _ g.K.Key.number
