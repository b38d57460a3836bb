use Rattle.std.proofs.Common.{arith}
use Rattle.text.proofs.Values.{text_digits, text_back}
use Rattle.text.proofs.numbers.push_decimal.Goals as goal

pub returns-clause-digits : goal.returns-clause-digits
returns-clause-digits c = text_digits c.args.n (omega arith)

pub returns-clause-back : goal.returns-clause-back
returns-clause-back c = λ limit l. text_back c.args.n limit (omega arith) l
