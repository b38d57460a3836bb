-- What a call answers, and the store after it.
use Rattle.std.specs.Prelude.{ℕ, cond, Some, None, Ok, Err, Option, Result, nat_lt}
use Rattle.rules.specs.declared.sheet.Mode.{Mode}
use Rattle.rules.specs.declared.sheet.Reading.{Reading}
use Rattle.rules.specs.declared.answers.Side.{Side}
use Rattle.rules.specs.declared.answers.Refusal.{Refusal}
use Rattle.rules.specs.declared.answers.Refusal.TheVariants as refusal
use Rattle.rules.specs.declared.answers.Answer.{Answer}
use Rattle.rules.specs.Stores.{Store, Lengths, same_lengths, session_at, with_finds}

-- what a call tells: an answer, or why it is refused
abbrev pub Told : Type 0 → Type 0
Told R = Result (Answer R) Refusal

pub record Outcome (K R : Type 0) : Type 0 where
  pub answer : Told R
  pub after : Store K R

-- what one of two gives, by whether a session is open
abbrev pub if_open : {X : Type 0} → Option Reading → (Mode → ℕ → X) → X → X
if_open None f x = x
if_open (Some r) f x = f r.mode r.time

module _ {K R : Type 0} where
  abbrev pub served : Answer R → Store K R → Outcome K R
  served a σ = record { answer = Ok a; after = σ }

  -- a refusal, and the store that it leaves
  abbrev pub refused : Refusal → Store K R → Outcome K R
  refused e σ = record { answer = Err e; after = σ }

  -- what a refused read, put or drop leaves: no finds are told
  abbrev pub untold : Store K R → Store K R
  untold σ = with_finds σ 0

  -- the first cause of every call: the lent lengths are the opening's
  abbrev pub if_lent : Side → Lengths → Store K R → Store K R → Outcome K R → Outcome K R
  if_lent side lent σ left o = cond (same_lengths lent σ.lengths) o (refused (refusal.OutOfRange side) left)

  -- the next causes of a seller call: the session's number is below 64, and the session is open
  abbrev pub for_session : Store K R → Store K R → ℕ → (Mode → ℕ → Outcome K R) → Outcome K R
  for_session σ left s f =
      cond (nat_lt 63 s) (refused refusal.NoSession left)
      (if_open (session_at σ.sessions s).reading f (refused refusal.NotOpen left))

module _ {R : Type 0} where
  -- x where the call was served, else y
  abbrev pub if_served : {X : Type 0} → Told R → X → X → X
  if_served (Ok v) x y = x
  if_served (Err e) x y = y
