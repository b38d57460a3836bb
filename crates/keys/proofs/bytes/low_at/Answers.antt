use Rattle.std.proofs.Common.{◌≡◌, ◌≤◌, length, take, drop, ap, ◌∙◌, arith}
use Rattle.std.proofs.lemmas.List.{length-take}
use Rattle.keys.specs.Bytes.{from_low}
use Rattle.keys.specs.Low.{low_is, low_lt}
use Rattle.keys.proofs.bytes.low_at.Goals as goal

pub returns : goal.returns
returns c =
    let bytes = drop c.args.at c.args.bytes.now in
    let e : c.part.result.now ≡ take c.args.n bytes = c.part.ensures in
    let v = low_is c.args.n c.read_all.result bytes (c.read_all.ensures.value ∙ ap from_low e)
    (rw (← e) c.read_all.ensures.bound) in
    record { value = v; bound = rw v (low_lt c.args.n bytes) }
