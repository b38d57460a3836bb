-- A table has as many entries as elements.
use Rattle.std.specs.Prelude.{◌≡◌, ℕ, ◌≤◌, List, length}
use Rattle.std.proofs.Common.{arith}
use Rattle.std.proofs.lemmas.List.{length-map}
use Rattle.cold.specs.Sorted.{meant, table}
use Rattle.cold.specs.declared.sorted.Held.{Held}

pub few_meant : {K R : Type 0} (number : K → ℕ) (hs : List (Held K R)) {n limit : ℕ} → n ≡ length hs → n ≤ limit → length (table number hs) ≤ limit
few_meant number hs e h = let l = length-map hs (meant number) in omega (arith, l, e, h)
