use Rattle.std.proofs.Common.{◌/◌, ◌%◌, eqb, get_or, ap}
use Rattle.filter.specs.Bloom.{bit_at}
use Rattle.filter.proofs.Marks.{test_is}
use Rattle.filter.proofs.bloom.is_set.Goals as goal

pub returns : goal.returns
unfolding bit_at
returns c = ap (λ x. eqb x 1) (test_is (get_or c.args.words.now (c.args.place / 64) 0) (c.args.place % 64))
