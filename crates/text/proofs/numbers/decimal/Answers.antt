use Rattle.std.proofs.Common.{◌≡◌, ◌+◌, ◌-◌, ◌*◌, get_or, rules, arith, ◌∙◌}
use Rattle.text.proofs.Values.{no_digit, read_over, read_more, read_all}
use Rattle.text.proofs.numbers.decimal.Goals as goal

pub returns-then-not-is_ascii_digit-clause-value : goal.returns-then-not-is_ascii_digit-clause-value
returns-then-not-is_ascii_digit-clause-value c =
    no_digit c.args.limit c.args.digits.now c.loop-b.b-index c.loop-b-test.true c.loop-b.invariant.0.0 (search rules)

-- past 64 bits it is above any limit
pub returns-in_err-checked_mul-clause-value : goal.returns-in_err-checked_mul-clause-value
returns-in_err-checked_mul-clause-value c =
    c.from_residual.ensures ∙ read_over c.args.limit c.loop-b.n c.args.digits.now c.loop-b.b-index c.loop-b-test.true
    (omega (arith, c.in_err-checked_mul.ensures)) c.loop-b.invariant.0.1

pub returns-in_err-n-clause-value : goal.returns-in_err-n-clause-value
returns-in_err-n-clause-value c =
    c.from_residual-in_err-n.ensures ∙ read_over c.args.limit c.loop-b.n c.args.digits.now c.loop-b.b-index c.loop-b-test.true
    (omega (arith, c.in_err-n.ensures, c.in_ok-checked_mul.ensures, c.from.ensures)) c.loop-b.invariant.0.1

pub returns-then-n-limit-clause-value : goal.returns-then-n-limit-clause-value
returns-then-n-limit-clause-value c =
    read_over c.args.limit c.loop-b.n c.args.digits.now c.loop-b.b-index c.loop-b-test.true
    (omega (arith, c.in_ok-n.ensures, c.in_ok-checked_mul.ensures, c.from.ensures)) c.loop-b.invariant.0.1

pub loop-b-preserved : goal.loop-b-preserved
loop-b-preserved c =
    let e : c.in_ok-n.n ≡ c.loop-b.n * 10 + (get_or c.args.digits.now c.loop-b.b-index 0 - 48) =
    omega (arith, c.in_ok-n.ensures, c.in_ok-checked_mul.ensures, c.from.ensures) in
    let m = read_more c.args.limit c.loop-b.n c.args.digits.now c.loop-b.b-index c.loop-b-test.true (search rules) c.loop-b.invariant.0 in
    ((m.0, rw e m.1), omega arith)

pub returns-clause-value : goal.returns-clause-value
returns-clause-value c =
    read_all c.args.limit c.loop-b.n c.args.digits.now c.loop-b.b-index c.loop-b-test.false (search rules) c.loop-b.invariant.1 c.loop-b.invariant.0
