use Rattle.std.proofs.Common.{◌≡◌, rules, ap, ◌∙◌}
use Rattle.text.specs.Words.{meant, word_of, spelled}
use Rattle.text.proofs.Names.{word_back}
use Rattle.text.proofs.words.read_word.Goals as goal

pub returns-in-Some-clause-back : goal.returns-in-Some-clause-back
returns-in-Some-clause-back c =
    let e : meant c.name_word.result ≡ word_of c.args.word.now = search rules in ap spelled e ∙ word_back c.args.word.now
