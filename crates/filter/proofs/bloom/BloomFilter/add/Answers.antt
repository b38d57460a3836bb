use Rattle.std.proofs.Common.{◌∙◌}
use Rattle.filter.proofs.Marks.{bloom_keeps}
use Rattle.filter.proofs.bloom.BloomFilter.add.Goals as goal

pub returns-clause-keeps : goal.returns-clause-keeps
returns-clause-keeps c = λ k e. c.mark.ensures.admitted k ∙ bloom_keeps c.args.self.now.words c.args.number k e
