use Rattle.law.proofs.Theorem.{the_law}
use Rattle.seller.proofs.open.open.Goals as goal

pub returns-then-not-is_in_range-clause-law : goal.returns-then-not-is_in_range-clause-law
returns-then-not-is_in_range-clause-law g c = the_law _ _ g.K.Key.number

pub returns-clause-law : goal.returns-clause-law
returns-clause-law g c = the_law _ _ g.K.Key.number
