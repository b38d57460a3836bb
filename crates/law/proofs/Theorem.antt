-- The law, whole.
use Rattle.std.proofs.Common.{ℕ}
use Rattle.law.specs.Law.{Law}
use Rattle.law.proofs.Alike.{alike}
use Rattle.law.proofs.Serial.{serial}
use Rattle.law.proofs.Settled.{settled}

pub the_law : (K R : Type 0) (number : K → ℕ) → Law K R number
the_law K R number = (alike K R number, serial K R number, settled K R number)
