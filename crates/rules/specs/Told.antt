-- What a call returns, as an answer: its value where it was served, or its refusal.
use Rattle.std.specs.Prelude.{ℕ, Bool, Ok, Err, Option, Result}
use Rattle.rules.specs.Outcomes.{Told}
use Rattle.rules.specs.declared.answers.Refusal.{Refusal}
use Rattle.rules.specs.declared.answers.Swept.{Swept}
use Rattle.rules.specs.declared.answers.Answer.TheVariants as answer

module _ {R : Type 0} where
  -- begin, put, abandon, copy, settle, give-up, collect
  abbrev pub told_done : Result (Unit {0}) Refusal → Told R
  told_done (Ok v) = Ok answer.Done
  told_done (Err e) = Err e

  -- read
  abbrev pub told_row : Result (Option R) Refusal → Told R
  told_row (Ok v) = Ok (answer.Row v)
  told_row (Err e) = Err e

  -- drop
  abbrev pub told_was : Result Bool Refusal → Told R
  told_was (Ok v) = Ok (answer.Was v)
  told_was (Err e) = Err e

  -- commit
  abbrev pub told_at : Result ℕ Refusal → Told R
  told_at (Ok v) = Ok (answer.At v)
  told_at (Err e) = Err e

  -- sweep
  abbrev pub told_swept : Result Swept Refusal → Told R
  told_swept (Ok v) = Ok (answer.Swept v)
  told_swept (Err e) = Err e
