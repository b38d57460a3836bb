-- Committed sessions of a run, their places, and what one plain table would have answered them.
use Rattle.std.specs.Prelude.{◌≡◌, ℕ, ◌+◌, ◌*◌, Bool, true, false, cond, ◌&&◌, List, [], ◌∷◌, ◌++◌, Some, None, Option, ◌==◌, nat_le, nat_lt, Ok, Err}
use Rattle.slots.specs.Lists.{any, kept, one}
use Rattle.rules.specs.declared.sheet.Mode.{Mode}
use Rattle.rules.specs.declared.answers.Answer.TheVariants as answer
use Rattle.rules.specs.declared.answers.Call.{Call}
use Rattle.rules.specs.declared.answers.Call.TheVariants as call
use Rattle.rules.specs.Outcomes.{Told, if_served}
use Rattle.versions.specs.Writes.{Writes, upd}
use Rattle.rules.specs.Refusals.{is_stale}
use Rattle.law.specs.Runs.{Event}
use Rattle.law.specs.Single.{Single, Table, fed, carry_out}

module _ {K R : Type 0} where
  -- served events of a session
  abbrev pub begin_of : ℕ → Mode → Event K R
  begin_of s m = record { call = call.Begin s m; answer = Ok answer.Done }

  abbrev pub read_of : ℕ → K → Option R → Event K R
  read_of s k o = record { call = call.Read s k; answer = Ok (answer.Row o) }

  abbrev pub drop_of : ℕ → K → Bool → Event K R
  drop_of s k w = record { call = call.Drop s k; answer = Ok (answer.Was w) }

  abbrev pub commit_of : ℕ → ℕ → Event K R
  commit_of s n = record { call = call.Commit s; answer = Ok (answer.At n) }

module _ {R : Type 0} where
  -- a commit closes its session where it is served, and where it is refused as stale
  abbrev pub commit_closes : Told R → Bool
  commit_closes (Ok v) = true
  commit_closes (Err e) = is_stale e

module _ {K R : Type 0} where
  abbrev pub closes_by : ℕ → Call K R → Told R → Bool
  closes_by s (call.Begin u m) a = false
  closes_by s (call.Read u k) a = false
  closes_by s (call.Put u k r) a = false
  closes_by s (call.Drop u k) a = false
  closes_by s (call.Commit u) a = u == s && commit_closes a
  closes_by s (call.Abandon u) a = u == s && if_served a true false
  closes_by s (call.Choose k) a = false
  closes_by s (call.Copy t) a = false
  closes_by s (call.Settle t) a = false
  closes_by s (call.GiveUp t) a = false
  closes_by s call.Sweep a = false
  closes_by s call.Collect a = false

  abbrev pub closes : ℕ → Event K R → Bool
  closes s ev = closes_by s ev.call ev.answer

  -- A committed session in the events of a run: from its served begin to the served commit that closes it. The commit
  -- answered `stamp`, which is 0 where the session had no marks.
  pub record Committed (es : List (Event K R)) : Type 0 where
    pub session : ℕ
    pub mode : Mode
    pub stamp : ℕ
    pub before : List (Event K R)
    pub work : List (Event K R)
    pub after : List (Event K R)
    pub cut : es ≡ before ++ (begin_of session mode ∷ (work ++ (commit_of session stamp ∷ after)))
    pub open_still : any (closes session) work ≡ false

-- where a committed session is placed: at its stamp or, at 0, just after its read time. Stamps count double, so that there
-- is a place just after each.
abbrev pub place : ℕ → ℕ → ℕ
place read stamp = cond (stamp == 0) (2 * read + 1) (2 * stamp)

-- a committed session's place and writes
pub record Placed (R : Type 0) : Type 0 where
  pub at : ℕ
  pub writes : Writes R

module _ {R : Type 0} where
  abbrev pub placed_commit : Single R → ℕ → Told R → List (Placed R)
  placed_commit x s (Ok answer.Done) = []
  placed_commit x s (Ok (answer.Row o)) = []
  placed_commit x s (Ok (answer.Was o)) = []
  placed_commit x s (Ok (answer.At n)) = one (record { at = place (x.visit s).read n; writes = (x.visit s).writes })
  placed_commit x s (Ok (answer.Tag n)) = []
  placed_commit x s (Ok (answer.Swept o)) = []
  placed_commit x s (Err e) = []

module _ {K R : Type 0} where
  abbrev pub placed_by : Single R → Call K R → Told R → List (Placed R)
  placed_by x (call.Begin s m) a = []
  placed_by x (call.Read s k) a = []
  placed_by x (call.Put s k r) a = []
  placed_by x (call.Drop s k) a = []
  placed_by x (call.Commit s) a = placed_commit x s a
  placed_by x (call.Abandon s) a = []
  placed_by x (call.Choose k) a = []
  placed_by x (call.Copy t) a = []
  placed_by x (call.Settle t) a = []
  placed_by x (call.GiveUp t) a = []
  placed_by x call.Sweep a = []
  placed_by x call.Collect a = []

module _ {K R : Type 0} (number : K → ℕ) where
  -- the committed sessions of a run, with the single table's writes, in the order of their commits
  unfoldable pub placed : Single R → List (Event K R) → List (Placed R)
  placed x [] = []
  placed x (ev ∷ evs) = placed_by x ev.call ev.answer ++ placed (fed number x ev.call ev.answer) evs

module _ {R : Type 0} where
  -- put in before the first that is not placed earlier
  unfoldable pub put_by_place : Placed R → List (Placed R) → List (Placed R)
  put_by_place c [] = one c
  put_by_place c (d ∷ ds) = cond (nat_le c.at d.at) (c ∷ (d ∷ ds)) (d ∷ put_by_place c ds)

  unfoldable pub all_by_place : List (Placed R) → List (Placed R) → List (Placed R)
  all_by_place ds [] = ds
  all_by_place ds (c ∷ cs) = all_by_place (put_by_place c ds) cs

  -- in order of place
  abbrev pub by_place : List (Placed R) → List (Placed R)
  by_place cs = all_by_place [] cs

  -- the writes of each in turn
  unfoldable pub all_carried : List (Placed R) → Table R → Table R
  all_carried [] table = table
  all_carried (c ∷ cs) table = all_carried cs (carry_out c.writes table)

  -- those placed earlier
  abbrev pub earlier : ℕ → List (Placed R) → List (Placed R)
  earlier p cs = kept (λ c. nat_lt c.at p) cs

module _ {K R : Type 0} (number : K → ℕ) where
  -- the session's own served puts and drops, on the table
  abbrev pub own_act : ℕ → Table R → Call K R → Told R → Table R
  own_act s table (call.Begin u m) a = table
  own_act s table (call.Read u k) a = table
  own_act s table (call.Put u k r) a = cond (u == s) (if_served a (upd table (number k) (Some r)) table) table
  own_act s table (call.Drop u k) a = cond (u == s) (if_served a (upd table (number k) None) table) table
  own_act s table (call.Commit u) a = table
  own_act s table (call.Abandon u) a = table
  own_act s table (call.Choose k) a = table
  own_act s table (call.Copy t) a = table
  own_act s table (call.Settle t) a = table
  own_act s table (call.GiveUp t) a = table
  own_act s table call.Sweep a = table
  own_act s table call.Collect a = table

  unfoldable pub own_acts : ℕ → Table R → List (Event K R) → Table R
  own_acts s table [] = table
  own_acts s table (ev ∷ evs) = own_acts s (own_act s table ev.call ev.answer) evs
