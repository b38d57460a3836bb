-- A run written out: two sessions, a move that is overtaken half way, a commit refused as stale, and the sweeps that clear up.
-- Keys and rows are plain numbers.
use Rattle.std.specs.Prelude.{ℕ, false, List, [], ◌∷◌, Some, Ok, Err}
use Rattle.rules.specs.Outcomes.{Told}
use Rattle.rules.specs.declared.sheet.Mode.TheVariants.{Plain, Checked}
use Rattle.rules.specs.declared.answers.Swept.TheVariants.{Gone, Emptied}
use Rattle.rules.specs.declared.answers.Refusal.TheVariants as refusal
use Rattle.rules.specs.declared.answers.Answer.TheVariants as answer
use Rattle.rules.specs.declared.answers.Call.{Call}
use Rattle.rules.specs.declared.answers.Call.TheVariants as call
use Rattle.rules.specs.Stores.{Store}
use Rattle.law.specs.Runs.{Event, Runs, Opening, at_opening}

abbrev pub same : ℕ → ℕ
same k = k

-- eight slots in each table and below, clock 1, no tag given yet, a filter that admits nothing
abbrev pub small : Opening
small = record { lengths = record { hots = 8; memos = 8; lines = 8 }; clock = 1; last_tag = 0; limit = 8; admits = λ k. false }

abbrev pub gets : Call ℕ ℕ → Told ℕ → Event ℕ ℕ
gets c a = record { call = c; answer = a }

abbrev pub overtaken_day : List (Event ℕ ℕ)
overtaken_day =
    gets (call.Begin 0 Plain) (Ok answer.Done) ∷
    (gets (call.Put 0 7 50) (Ok answer.Done) ∷
    (gets (call.Commit 0) (Ok (answer.At 2)) ∷
    (gets (call.Choose 7) (Ok (answer.Tag 1)) ∷
    (gets (call.Begin 1 Checked) (Ok answer.Done) ∷
    (gets (call.Begin 2 Checked) (Ok answer.Done) ∷
    (gets (call.Read 1 7) (Ok (answer.Row (Some 50))) ∷
    (gets (call.Put 2 7 60) (Ok answer.Done) ∷
    (gets (call.Copy 1) (Err refusal.MoveOver) ∷
    (gets (call.Put 1 8 10) (Ok answer.Done) ∷
    (gets (call.Commit 2) (Ok (answer.At 3)) ∷
    (gets (call.Commit 1) (Err refusal.StaleRead) ∷
    (gets call.Sweep (Ok (answer.Swept Emptied)) ∷
    (gets call.Sweep (Ok (answer.Swept Gone)) ∷
    (gets call.Collect (Ok answer.Done) ∷ []))))))))))))))

-- it is a run, with these very answers
abbrev pub SampleRun : Type 0
SampleRun = (τ : Store ℕ ℕ) × Runs same (at_opening small) overtaken_day τ
