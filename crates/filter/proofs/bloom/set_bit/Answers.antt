use Rattle.std.proofs.Common.{◌/◌, ◌%◌, get_or, set, ap, arith}
use lib.Bits.{bit_or}
use Rattle.filter.specs.Bloom.{with_bit}
use Rattle.filter.proofs.Marks.{mask_is}
use Rattle.filter.proofs.bloom.set_bit.Goals as goal

pub returns-clause-words : goal.returns-clause-words
unfolding with_bit
returns-clause-words c = ap (λ x. set c.args.words.now (c.args.place / 64) (bit_or (get_or c.args.words.now (c.args.place / 64) 0) x))
    (mask_is (c.args.place % 64) (omega arith))
