-- Three errors that tempt, each as a changed step in a run, and what it does to a seller. Keys and rows are plain numbers.
use Rattle.std.specs.Prelude.{ℕ, true, cond, List, [], ◌∷◌, ◌++◌, is_some, Some, None, Option, Ok, Err}
use Rattle.slots.specs.Lists.{at_first}
use Rattle.cold.specs.Cold.{put_after}
use Rattle.rules.specs.Outcomes.{Told}
use Rattle.rules.specs.declared.sheet.Mode.TheVariants.{Plain, Checked}
use Rattle.rules.specs.declared.answers.Swept.TheVariants.{Gone, Emptied}
use Rattle.rules.specs.declared.answers.Refusal.TheVariants as refusal
use Rattle.rules.specs.declared.answers.Answer.TheVariants as answer
use Rattle.rules.specs.declared.answers.Call.TheVariants as call
use Rattle.rules.specs.Stores.{Store, with_memo, with_below}
use Rattle.rules.specs.Looking.{looked, row_of}
use Rattle.rules.specs.Selling.{read_rule}
use Rattle.rules.specs.Moving.{due}
use Rattle.law.specs.Runs.{Event, Runs, at_opening}
use Rattle.law.specs.Sample.{same, small, gets}

-- from the opening these events, then a changed step, then those
abbrev pub WithStep : List (Event ℕ ℕ) → (Store ℕ ℕ → Store ℕ ℕ) → List (Event ℕ ℕ) → Type 0
WithStep es changed fs = (σ τ : Store ℕ ℕ) × Runs same (at_opening small) es σ × Runs same (changed σ) fs τ

-- from the opening these events, by the rules
abbrev pub ByRules : List (Event ℕ ℕ) → Type 0
ByRules es = (τ : Store ℕ ℕ) × Runs same (at_opening small) es τ

-- 1. Copying after being overtaken: the copy puts the row that it was to move into the cold store, whatever its mark.
abbrev pub copied_late : Store ℕ ℕ → Store ℕ ℕ
copied_late σ = with_below σ (put_after σ.limit σ.cold 7 1 50) (λ n. true)

-- the move of listing 7 is overtaken by a put, and its notice is swept away
abbrev pub overtaken : List (Event ℕ ℕ)
overtaken =
    gets (call.Begin 0 Plain) (Ok answer.Done) ∷
    (gets (call.Put 0 7 50) (Ok answer.Done) ∷
    (gets (call.Commit 0) (Ok (answer.At 2)) ∷
    (gets (call.Choose 7) (Ok (answer.Tag 1)) ∷
    (gets (call.Begin 1 Plain) (Ok answer.Done) ∷
    (gets (call.Put 1 7 60) (Ok answer.Done) ∷
    (gets (call.Commit 1) (Ok (answer.At 3)) ∷
    (gets call.Sweep (Ok (answer.Swept Emptied)) ∷
    (gets call.Sweep (Ok (answer.Swept Gone)) ∷ []))))))))

-- then it is dropped, and a new session reads it
abbrev pub dropped_then : Option ℕ → List (Event ℕ ℕ)
dropped_then row =
    gets (call.Begin 2 Plain) (Ok answer.Done) ∷
    (gets (call.Drop 2 7) (Ok (answer.Was true)) ∷
    (gets (call.Commit 2) (Ok (answer.At 4)) ∷
    (gets call.Collect (Ok answer.Done) ∷
    (gets (call.Begin 3 Plain) (Ok answer.Done) ∷
    (gets (call.Read 3 7) (Ok (answer.Row row)) ∷ [])))))

-- 2. A ledger without reads of absent keys: such a read leaves the store as it was. The read times here are 1.
abbrev pub read_of_seen : ℕ → ℕ → Store ℕ ℕ → Store ℕ ℕ
read_of_seen s k σ = cond (is_some (row_of (looked same σ s 1 k).seen)) (read_rule same σ.lengths σ s k).after σ

abbrev pub two_begin : List (Event ℕ ℕ)
two_begin = gets (call.Begin 0 Checked) (Ok answer.Done) ∷ (gets (call.Begin 1 Checked) (Ok answer.Done) ∷ [])

-- each looks whether the other's listing is there
abbrev pub two_look : List (Event ℕ ℕ)
two_look = gets (call.Read 0 8) (Ok (answer.Row None)) ∷ (gets (call.Read 1 7) (Ok (answer.Row None)) ∷ [])

-- and lists its own
abbrev pub two_list : Told ℕ → List (Event ℕ ℕ)
two_list last =
    gets (call.Put 0 7 70) (Ok answer.Done) ∷
    (gets (call.Put 1 8 80) (Ok answer.Done) ∷
    (gets (call.Commit 0) (Ok (answer.At 2)) ∷
    (gets (call.Commit 1) last ∷ [])))

-- 3. A notice taken out before its cold entry.
abbrev pub swept_early : Store ℕ ℕ → Store ℕ ℕ
swept_early σ = with_memo σ (at_first (due σ) (λ n. []) σ.memo)

-- listing 7 moves to the cold store, and is dropped there
abbrev pub dropped_below : List (Event ℕ ℕ)
dropped_below =
    gets (call.Begin 0 Plain) (Ok answer.Done) ∷
    (gets (call.Put 0 7 50) (Ok answer.Done) ∷
    (gets (call.Commit 0) (Ok (answer.At 2)) ∷
    (gets (call.Choose 7) (Ok (answer.Tag 1)) ∷
    (gets (call.Copy 1) (Ok answer.Done) ∷
    (gets (call.Settle 1) (Ok answer.Done) ∷
    (gets call.Sweep (Ok (answer.Swept Gone)) ∷
    (gets (call.Begin 1 Plain) (Ok answer.Done) ∷
    (gets (call.Drop 1 7) (Ok (answer.Was true)) ∷
    (gets (call.Commit 1) (Ok (answer.At 3)) ∷ [])))))))))

abbrev pub read_then : Option ℕ → List (Event ℕ ℕ)
read_then row = gets (call.Begin 2 Plain) (Ok answer.Done) ∷ (gets (call.Read 2 7) (Ok (answer.Row row)) ∷ [])

pub record Tempting : Type 0 where
  -- the dropped listing is back with its old row; by the rules the copy is refused, and nothing is there
  pub late_copy : WithStep overtaken copied_late (dropped_then (Some 50))
  pub late_copy_refused : ByRules (overtaken ++ (gets (call.Copy 1) (Err refusal.MoveOver) ∷ dropped_then None))
  -- both sellers list their seat; by the rules the second is refused as stale
  pub forgotten_reads : WithStep two_begin (λ σ. read_of_seen 1 7 (read_of_seen 0 8 σ)) (two_list (Ok (answer.At 3)))
  pub entered_reads : ByRules (two_begin ++ (two_look ++ two_list (Err refusal.StaleRead)))
  -- the dropped listing is back; by the rules it is not
  pub early_sweep : WithStep dropped_below swept_early (read_then (Some 50))
  pub sweep_by_rules : ByRules (dropped_below ++ (gets call.Sweep (Ok (answer.Swept Emptied)) ∷ read_then None))
