-- The single table: one plain table, fed the opening's clock, each call, whether it was served, and what a commit answered.
use Rattle.std.specs.Prelude.{ℕ, Bool, false, cond, List, [], ◌∷◌, is_some, Some, None, Option, ◌==◌, Ok, Err}
use Rattle.rules.specs.declared.answers.Answer.TheVariants as answer
use Rattle.rules.specs.declared.answers.Call.{Call}
use Rattle.rules.specs.declared.answers.Call.TheVariants as call
use Rattle.rules.specs.Outcomes.{Told, if_served}
use Rattle.versions.specs.Writes.{Writes, no_writes, over, upd}
use Rattle.law.specs.Runs.{Event}

-- to each key number its row, or nothing
abbrev pub Table : Type 0 → Type 0
Table R = ℕ → Option R

abbrev pub no_rows : {R : Type 0} → Table R
no_rows k = None

-- writes carried out on a table
abbrev pub carry_out : {R : Type 0} → Writes R → Table R → Table R
carry_out writes table k = over (writes k) (table k)

-- what is kept for a session: its read time, the keys that the table had when it began, and its writes, one a key at most
pub record Visit (R : Type 0) : Type 0 where
  pub read : ℕ
  pub had : ℕ → Bool
  pub writes : Writes R

-- `clock` is the last stamp that a commit answered, or the opening's clock
pub record Single (R : Type 0) : Type 0 where
  pub clock : ℕ
  pub table : Table R
  pub visit : ℕ → Visit R

module _ {R : Type 0} where
  abbrev pub with_visit : Single R → ℕ → Visit R → Single R
  with_visit x s v = record { clock = x.clock; table = x.table; visit = upd x.visit s v }

  abbrev pub with_write : Single R → ℕ → ℕ → Option (Option R) → Single R
  with_write x s k w =
      with_visit x s (record { read = (x.visit s).read; had = (x.visit s).had; writes = upd (x.visit s).writes k w })

  -- begin: no writes yet
  abbrev pub began : Single R → ℕ → Single R
  began x s = with_visit x s (record { read = x.clock; had = λ k. is_some (x.table k); writes = no_writes })

  -- put: the key's write is that put
  abbrev pub put_noted : Single R → ℕ → ℕ → R → Single R
  put_noted x s k r = with_write x s k (Some (Some r))

  -- drop: the key's write is a drop if the table had the key at begin, else none
  abbrev pub drop_noted : Single R → ℕ → ℕ → Single R
  drop_noted x s k = with_write x s k (cond ((x.visit s).had k) (Some None) None)

  -- commit: one that answers a stamp carries the session's writes out
  abbrev pub committed : Single R → ℕ → Told R → Single R
  committed x s (Ok answer.Done) = x
  committed x s (Ok (answer.Row o)) = x
  committed x s (Ok (answer.Was o)) = x
  committed x s (Ok (answer.At n)) =
      cond (n == 0) x (record { clock = n; table = carry_out (x.visit s).writes x.table; visit = x.visit })
  committed x s (Ok (answer.Tag n)) = x
  committed x s (Ok (answer.Swept o)) = x
  committed x s (Err e) = x

module _ {K R : Type 0} (number : K → ℕ) where
  -- all else, refusals too, leaves it
  abbrev pub fed : Single R → Call K R → Told R → Single R
  fed x (call.Begin s m) a = if_served a (began x s) x
  fed x (call.Read s k) a = x
  fed x (call.Put s k r) a = if_served a (put_noted x s (number k) r) x
  fed x (call.Drop s k) a = if_served a (drop_noted x s (number k)) x
  fed x (call.Commit s) a = committed x s a
  fed x (call.Abandon s) a = x
  fed x (call.Choose k) a = x
  fed x (call.Copy t) a = x
  fed x (call.Settle t) a = x
  fed x (call.GiveUp t) a = x
  fed x call.Sweep a = x
  fed x call.Collect a = x

  unfoldable pub all_fed : Single R → List (Event K R) → Single R
  all_fed x [] = x
  all_fed x (ev ∷ evs) = all_fed (fed x ev.call ev.answer) evs

-- it starts empty
abbrev pub at_start : {R : Type 0} → ℕ → Single R
at_start clock = record {
  clock = clock;
  table = no_rows;
  visit = λ s. record { read = clock; had = λ k. false; writes = no_writes };
}
