-- The causes of refusal that most seller calls try first.
use Rattle.std.specs.Prelude.{ℕ, cond, Err, Result, nat_lt, ok_or}
use Rattle.rules.specs.declared.sheet.Reading.{Reading}
use Rattle.rules.specs.declared.answers.Side.TheVariants.{Seller}
use Rattle.rules.specs.declared.answers.Refusal.{Refusal}
use Rattle.rules.specs.declared.answers.Refusal.TheVariants as refusal
use Rattle.rules.specs.Stores.{Store, Lengths, same_lengths, session_at}

-- what an open session was begun with, or why the call is refused
abbrev pub admitted : {K R : Type 0} → Lengths → Store K R → ℕ → Result Reading Refusal
admitted lent σ s =
    cond (same_lengths lent σ.lengths)
    (cond (nat_lt 63 s) (Err refusal.NoSession) (ok_or (session_at σ.sessions s).reading refusal.NotOpen))
    (Err (refusal.OutOfRange Seller))
