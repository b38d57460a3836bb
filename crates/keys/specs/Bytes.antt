-- Numbers as bytes, lowest byte first.
use Rattle.std.specs.Prelude.{ℕ, zero, suc, ◌+◌, ◌*◌, ◌/◌, ◌%◌, ◌^◌, List, [], ◌∷◌, take}

-- the n lowest bytes of x, lowest first
unfoldable pub low_bytes : ℕ → ℕ → List ℕ
low_bytes zero x = []
low_bytes (suc n) x = x % 256 ∷ low_bytes n (x / 256)

-- the number that bytes write, lowest first
unfoldable pub from_low : List ℕ → ℕ
from_low [] = 0
from_low (b ∷ bs) = b + 256 * from_low bs

-- the number of the first n bytes, which is below 256 ^ n
abbrev pub low : ℕ → List ℕ → ℕ
low n bs = from_low (take n bs) % 256 ^ n
