-- The single table of the statements against the history of the proofs: two accounts of the same seller calls.
use Rattle.std.proofs.Common.{◌≡◌, ℕ, ◌+◌, ◌≤◌, Bool, true, false, cond, eqb, ◌⊎◌, List, [], ◌∷◌, Some, None, Option, refl, subst, inl, inr, arith, Ok, Err}
use Rattle.std.specs.List.{AllByRecursion as All}
use Rattle.std.proofs.ByRecursion.{All-weaker}
use Rattle.std.proofs.lemmas.Bool.{eqb-true, eq-eqb, ne_eqb, le-leb}
use Rattle.rules.specs.declared.sheet.Mode.{Mode}
use Rattle.rules.specs.declared.answers.Answer.TheVariants as answer
use Rattle.rules.specs.declared.answers.Call.{Call}
use Rattle.rules.specs.declared.answers.Call.TheVariants as call
use Rattle.rules.specs.Outcomes.{Told, if_served}
use Rattle.rules.specs.Refusals.{is_stale}
use Rattle.versions.specs.Writes.{no_writes, upd}
use Rattle.versions.specs.History.{Commit, Turn, History, shown, with_turn, wrote, begins, closes, commits_at, feed, feed_commit, fresh}
use Rattle.law.specs.Runs.{Event}

-- Served or not: what holds of both ways holds of the answer's way.
pub by_served : {R X Y : Type 0} (P : X → Y → Type 0) (a : Told R) {x y : X} {u v : Y}
    → P x u → P y v → P (if_served a x y) (if_served a u v)
by_served P (Ok v) p q = p
by_served P (Err e) p q = q

pub upd_at : {Y : Type 0} (f : ℕ → Y) (s u : ℕ) (y : Y) (P : ℕ → Y → Type 0)
    → (u ≡ s → P u y) → ((u ≡ s → ⊥) → P u (f u)) → P u (upd f s y u)
upd_at f s u y P hit miss = go (eqb u s) refl
  where
    go : (t : Bool) → eqb u s ≡ t → P u (cond t y (f u))
    go true e = hit (eqb-true u s e)
    go false e = miss (λ z. let h = eq-eqb u s z in let y : ◌≡◌ {A = ℕ} 0 1 = cc in omega arith)

module _ {R : Type 0} where
  -- what a commit's answer tells of the session: it was open, and either wrote nothing (0) or got the next stamp
  abbrev pub Answered : History R → ℕ → ℕ → Type 0
  Answered T s n =
      (y : Turn R) × (T.turn s ≡ Some y) × (((n ≡ 0) × ((k : ℕ) → y.writes k ≡ None)) ⊎ (n ≡ T.clock + 1))

  abbrev pub CommitFact : History R → ℕ → Told R → Type 0
  CommitFact T s (Ok answer.Done) = Unit {0}
  CommitFact T s (Ok (answer.Row o)) = Unit {0}
  CommitFact T s (Ok (answer.Was o)) = Unit {0}
  CommitFact T s (Ok (answer.At n)) = Answered T s n
  CommitFact T s (Ok (answer.Tag n)) = Unit {0}
  CommitFact T s (Ok (answer.Swept o)) = Unit {0}
  CommitFact T s (Err e) = Unit {0}

  -- a begin is served to a session that is not open
  abbrev pub BeginFact : History R → ℕ → Told R → Type 0
  BeginFact T s (Ok v) = T.turn s ≡ None
  BeginFact T s (Err e) = Unit {0}

module _ {K R : Type 0} where
  -- what an event tells of the history that it meets
  abbrev pub Fact : History R → Call K R → Told R → Type 0
  Fact T (call.Begin s m) a = BeginFact T s a
  Fact T (call.Read s k) a = Unit {0}
  Fact T (call.Put s k r) a = Unit {0}
  Fact T (call.Drop s k) a = Unit {0}
  Fact T (call.Commit s) a = CommitFact T s a
  Fact T (call.Abandon s) a = Unit {0}
  Fact T (call.Choose k) a = Unit {0}
  Fact T (call.Copy t) a = Unit {0}
  Fact T (call.Settle t) a = Unit {0}
  Fact T (call.GiveUp t) a = Unit {0}
  Fact T call.Sweep a = Unit {0}
  Fact T call.Collect a = Unit {0}

module _ {K R : Type 0} (number : K → ℕ) where
  unfoldable pub feeds : History R → List (Event K R) → History R
  feeds T [] = T
  feeds T (ev ∷ evs) = feeds (feed number T ev.call ev.answer) evs

  -- every event of a list tells a fact of the history that it meets
  unfoldable pub Facts : History R → List (Event K R) → Type 0
  Facts T [] = Unit {0}
  Facts T (ev ∷ evs) = Fact T ev.call ev.answer × Facts (feed number T ev.call ev.answer) evs

module _ {R : Type 0} where
  -- nothing lies past the clock
  pub record Past (T : History R) : Type 0 where
    pub stamps : All (λ c. c.stamp ≤ T.clock) T.commits
    pub reads : (s : ℕ) (y : Turn R) → T.turn s ≡ Some y → y.read ≤ T.clock

  pub past_fresh : (c : ℕ) → Past (fresh c)
  past_fresh c = record { stamps = tt; reads = λ s y e. absurd cc }

  -- what is shown past all stamps is what is shown at the clock
  pub shown_past : (cs : List (Commit R)) (c t k : ℕ) → All (λ x. x.stamp ≤ c) cs → c ≤ t → shown cs t k ≡ shown cs c k
  shown_past [] c t k a l = refl
  shown_past (x ∷ cs) c t k a l =
      let ih = shown_past cs c t k a.1 l in
      let low = a.0 in
      let p = le-leb x.stamp t (omega arith) in
      let q = le-leb x.stamp c low in
      rw (p, q, ih) refl

  read_of_write : (o : Option (Turn R)) (k : ℕ) (w : Option (Option R)) (c : ℕ)
      → ((y : Turn R) → o ≡ Some y → y.read ≤ c) → (y : Turn R) → wrote o k w ≡ Some y → y.read ≤ c
  read_of_write None k w c f y e = absurd cc
  read_of_write (Some x) k w c f y e =
      let g = f x refl in
      let h : record { mode = x.mode; read = x.read; writes = upd x.writes k w } ≡ y = cc in
      subst (λ (z : Turn R). z.read ≤ c) h g

  past_write : (T : History R) (s k : ℕ) (w : Option (Option R)) → Past T → Past (with_turn T s (wrote (T.turn s) k w))
  past_write T s k w p = record {
    stamps = p.stamps;
    reads = λ u y. upd_at T.turn s u (wrote (T.turn s) k w) (λ _ o. o ≡ Some y → y.read ≤ T.clock)
        (λ _. read_of_write (T.turn s) k w T.clock (p.reads s) y)
        (λ _. p.reads u y);
  }

  none_of : (y : Turn R) {A : Type 0} → ◌≡◌ {A = Option (Turn R)} None (Some y) → A
  none_of y e = absurd cc

  past_close : (T : History R) (s : ℕ) → Past T → Past (closes T s)
  past_close T s p = record {
    stamps = p.stamps;
    reads = λ u y. upd_at T.turn s u None (λ _ o. o ≡ Some y → y.read ≤ T.clock) (λ _. none_of y) (λ _. p.reads u y);
  }

  past_begin : (T : History R) (s : ℕ) (m : Mode) → Past T → Past (begins T s m)
  past_begin T s m p = record {
    stamps = p.stamps;
    reads = λ u y. upd_at T.turn s u (Some (record { mode = m; read = T.clock; writes = no_writes }))
        (λ _ o. o ≡ Some y → y.read ≤ T.clock)
        (λ _ e. let h : record { mode = m; read = T.clock; writes = no_writes } ≡ y = cc in
        subst (λ (z : Turn R). z.read ≤ T.clock) h (omega arith))
        (λ _. p.reads u y);
  }

  past_commit : (T : History R) (s : ℕ) → Past T → Past (commits_at T s (T.clock + 1))
  past_commit T s p = record {
    stamps = (omega arith, All-weaker _ _ (λ c l. omega arith) T.commits p.stamps);
    reads = λ u y. upd_at T.turn s u None (λ _ o. o ≡ Some y → y.read ≤ T.clock + 1) (λ _. none_of y)
        (λ _ e. omega (arith, p.reads u y e));
  }

  -- a commit's answer: closed without a stamp, or with the next one
  pub by_answer : (T : History R) (s n : ℕ) (P : ℕ → History R → Type 0) → Answered T s n
      → P 0 (closes T s) → P (T.clock + 1) (commits_at T s (T.clock + 1))
      → P n (cond (eqb n 0) (closes T s) (commits_at T s n))
  by_answer T s n P f p q = elim f.2 [
    | inl z ↦ rw z.0 p
    | inr z ↦ rw (z, ne_eqb (T.clock + 1) 0 (λ x. omega arith)) q
  ]

module _ {K R : Type 0} (number : K → ℕ) where
  pub past_step : (T : History R) (c : Call K R) (a : Told R) → Past T → Fact T c a → Past (feed number T c a)
  past_step T (call.Begin s m) a p f = by_served (λ (_ : ℕ) U. Past U) a {x = 0} {y = 0} (past_begin T s m p) p
  past_step T (call.Read s k) a p f = p
  past_step T (call.Put s k r) a p f = by_served (λ (_ : ℕ) U. Past U) a {x = 0} {y = 0} (past_write T s (number k) _ p) p
  past_step T (call.Drop s k) a p f = by_served (λ (_ : ℕ) U. Past U) a {x = 0} {y = 0} (past_write T s (number k) _ p) p
  past_step T (call.Commit s) a p f = go a f
    where
      stale : (t : Bool) → Past (cond t (closes T s) T)
      stale true = past_close T s p
      stale false = p

      go : (a : Told R) → CommitFact T s a → Past (feed_commit T s a)
      go (Ok answer.Done) f = p
      go (Ok (answer.Row o)) f = p
      go (Ok (answer.Was o)) f = p
      go (Ok (answer.At n)) f = by_answer T s n (λ _ U. Past U) f (past_close T s p) (past_commit T s p)
      go (Ok (answer.Tag n)) f = p
      go (Ok (answer.Swept o)) f = p
      go (Err e) f = stale (is_stale e)
  past_step T (call.Abandon s) a p f = by_served (λ (_ : ℕ) U. Past U) a {x = 0} {y = 0} (past_close T s p) p
  past_step T (call.Choose k) a p f = p
  past_step T (call.Copy t) a p f = p
  past_step T (call.Settle t) a p f = p
  past_step T (call.GiveUp t) a p f = p
  past_step T call.Sweep a p f = p
  past_step T call.Collect a p f = p
