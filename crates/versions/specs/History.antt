-- The history of a run: what the single table went through, kept with its past. It is a function of the seller calls and
-- their answers alone. Proofs hold a store against it.
use Rattle.std.specs.Prelude.{ℕ, Bool, cond, List, [], ◌∷◌, is_some, Some, None, Option, ◌==◌, nat_le, Ok, Err}
use Rattle.rules.specs.declared.sheet.Mode.{Mode}
use Rattle.rules.specs.declared.answers.Answer.TheVariants as answer
use Rattle.rules.specs.declared.answers.Call.{Call}
use Rattle.rules.specs.declared.answers.Call.TheVariants as call
pub use Rattle.rules.specs.Refusals.{is_stale}
pub use Rattle.rules.specs.Outcomes.{Told, if_served}
pub use Rattle.versions.specs.Writes.{Writes, no_writes, over, upd}

-- a commit that answered a stamp
pub record Commit (R : Type 0) : Type 0 where
  pub stamp : ℕ
  pub writes : Writes R

-- an open session
pub record Turn (R : Type 0) : Type 0 where
  pub mode : Mode
  pub read : ℕ
  pub writes : Writes R

-- the commits are newest first; `turn` has the open sessions by number
pub record History (R : Type 0) : Type 0 where
  pub clock : ℕ
  pub commits : List (Commit R)
  pub turn : ℕ → Option (Turn R)

-- the row shown at time t: the newest commit with a stamp ≤ t that writes the key decides
abbrev pub shown : {R : Type 0} → List (Commit R) → ℕ → ℕ → Option R
shown [] t k = None
shown (c ∷ cs) t k = cond (nat_le c.stamp t) (over (c.writes k) (shown cs t k)) (shown cs t k)

abbrev pub turn_writes : {R : Type 0} → Option (Turn R) → Writes R
turn_writes None = no_writes
turn_writes (Some x) = x.writes

abbrev pub turn_read : {R : Type 0} → Option (Turn R) → ℕ
turn_read None = 0
turn_read (Some x) = x.read

module _ {R : Type 0} where
  abbrev pub with_turn : History R → ℕ → Option (Turn R) → History R
  with_turn T s x = record { clock = T.clock; commits = T.commits; turn = upd T.turn s x }

  abbrev pub wrote : Option (Turn R) → ℕ → Option (Option R) → Option (Turn R)
  wrote None k w = None
  wrote (Some x) k w = Some (record { mode = x.mode; read = x.read; writes = upd x.writes k w })

  -- was the key there at the session's read time
  abbrev pub had : History R → ℕ → ℕ → Bool
  had T s k = is_some (shown T.commits (turn_read (T.turn s)) k)

  -- a begin, a served put, a served drop, a close, a commit with a stamp
  abbrev pub begins : History R → ℕ → Mode → History R
  begins T s m = with_turn T s (Some (record { mode = m; read = T.clock; writes = no_writes }))

  abbrev pub puts : History R → ℕ → ℕ → R → History R
  puts T s k r = with_turn T s (wrote (T.turn s) k (Some (Some r)))

  abbrev pub drops : History R → ℕ → ℕ → History R
  drops T s k = with_turn T s (wrote (T.turn s) k (cond (had T s k) (Some None) None))

  abbrev pub closes : History R → ℕ → History R
  closes T s = with_turn T s None

  abbrev pub commits_at : History R → ℕ → ℕ → History R
  commits_at T s c = record {
    clock = c;
    commits = record { stamp = c; writes = turn_writes (T.turn s) } ∷ T.commits;
    turn = upd T.turn s None;
  }

module _ {R : Type 0} where
  abbrev pub feed_commit : History R → ℕ → Told R → History R
  feed_commit T s (Ok answer.Done) = T
  feed_commit T s (Ok (answer.Row o)) = T
  feed_commit T s (Ok (answer.Was o)) = T
  feed_commit T s (Ok (answer.At n)) = cond (n == 0) (closes T s) (commits_at T s n)
  feed_commit T s (Ok (answer.Tag n)) = T
  feed_commit T s (Ok (answer.Swept o)) = T
  feed_commit T s (Err e) = cond (is_stale e) (closes T s) T

module _ {K R : Type 0} (number : K → ℕ) where
  -- one event more
  abbrev pub feed : History R → Call K R → Told R → History R
  feed T (call.Begin s m) a = if_served a (begins T s m) T
  feed T (call.Read s k) a = T
  feed T (call.Put s k r) a = if_served a (puts T s (number k) r) T
  feed T (call.Drop s k) a = if_served a (drops T s (number k)) T
  feed T (call.Commit s) a = feed_commit T s a
  feed T (call.Abandon s) a = if_served a (closes T s) T
  feed T (call.Choose k) a = T
  feed T (call.Copy t) a = T
  feed T (call.Settle t) a = T
  feed T (call.GiveUp t) a = T
  feed T call.Sweep a = T
  feed T call.Collect a = T

-- nothing has happened yet
abbrev pub fresh : {R : Type 0} → ℕ → History R
fresh clock = record { clock = clock; commits = []; turn = λ s. None }
