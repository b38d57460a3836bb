use Rattle.std.proofs.Common.{◌≡◌, ◌-◌, ◌++◌, length, take}
use Rattle.keys.specs.Bytes.{low_bytes}
use Rattle.keys.proofs.bytes.write_low.Given as goal

abbrev pub invariant-loop-b : goal.invariant-loop-b
invariant-loop-b l = low_bytes (length l.initial.out) l.value ≡ take l.b-index l.out ++ low_bytes (length l.initial.out - l.b-index) l.rest
