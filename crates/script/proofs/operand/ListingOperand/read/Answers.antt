use Rattle.script.proofs.Taken.{listing_read}
use Rattle.script.proofs.operand.ListingOperand.read.Goals as goal

pub returns : goal.returns
returns c = listing_read _ _ c.in_ok-id.ensures.value
