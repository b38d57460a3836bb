use Rattle.std.proofs.Common.{arith}
use Rattle.filter.proofs.Widen.{band_none}
use Rattle.filter.proofs.band.Band.new.Goals as goal

pub returns : goal.returns
returns c = λ h. band_none 64 h (omega arith)
