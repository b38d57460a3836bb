use Rattle.std.proofs.Common.{◌≡◌, ◌≤◌, drop}
use Rattle.text.specs.Numbers.{all_digits, value_after, value}
use Rattle.text.proofs.numbers.decimal.Given as goal

abbrev pub invariant-loop-b : goal.invariant-loop-b
invariant-loop-b l = ((all_digits (drop l.b-index l.digits) ≡ all_digits l.digits) ×
    (value_after l.n (drop l.b-index l.digits) ≡ value l.digits)) × (l.n ≤ l.limit)
