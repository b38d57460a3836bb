-- What the calls on moves return: as an answer, and what they leave in the caller's hand.
use Rattle.std.specs.Prelude.{◌≡◌, Ok, Err, Result, ◌≢◌}
use Rattle.rules.specs.declared.answers.Refusal.{Refusal}
use Rattle.rules.specs.declared.answers.Refusal.TheVariants.{MoveOver}
use Rattle.rules.specs.declared.answers.Answer.TheVariants as answer
use Rattle.rules.specs.Outcomes.{Told}
use Rattle.mover.specs.declared.moves.Move.{Move}
use Rattle.mover.specs.declared.moves.Stopped.{Stopped}
use Rattle.mover.specs.declared.moves.Stopped.TheVariants.{Over, Kept}

module _ {R : Type 0} where
  abbrev pub told_chosen : {S : Type 0} → Result (Move S) Refusal → Told R
  told_chosen (Ok m) = Ok (answer.Tag m.tag)
  told_chosen (Err e) = Err e

  -- copy, settle, give-up
  abbrev pub told_moved : {D M : Type 0} → Result D (Stopped M) → Told R
  told_moved (Ok d) = Ok answer.Done
  told_moved (Err (Over e)) = Err e
  told_moved (Err (Kept m e)) = Err e

-- A refusal that is not 14 hands the same move back, and 14 alone spends it.
abbrev pub LeftBy : {M : Type 0} → M → Stopped M → Type 0
LeftBy m (Over e) = e ≡ MoveOver
LeftBy m (Kept k e) = (k ≡ m) × (e ≢ MoveOver)
