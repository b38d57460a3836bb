use Rattle.std.proofs.Common.{◌≡◌, length, drop, replicate, ◌++◌, ap, ◌∙◌, arith}
use Rattle.std.specs.Int.{w64, from_le_bytes}
use Rattle.keys.specs.Low.{low_of_eight, from_low_lt}
use Rattle.keys.proofs.bytes.read_all.Goals as goal

pub returns : goal.returns
returns c =
    let e : c.from_le_bytes.result ≡ from_le_bytes w64 (c.copy_from_slice.new.self ++ drop (length c.args.bytes.now) (replicate 8 0)) = c.from_le_bytes.ensures in
    let v = e ∙ ap (λ xs. from_le_bytes w64 (xs ++ drop (length c.args.bytes.now) (replicate 8 0))) c.copy_from_slice.ensures.after
    ∙ low_of_eight c.args.bytes.now c.requires in
    record { value = v; bound = rw v (from_low_lt c.args.bytes.now (λ k. omega (arith, c.type_inv.bytes k))) }
