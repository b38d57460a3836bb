use Rattle.std.proofs.Common.{refl}
use Rattle.filter.proofs.Marks.{bloom_none}
use Rattle.filter.proofs.bloom.Bloom.new.Goals as goal

pub returns : goal.returns
returns c = λ h. bloom_none 64 h refl
