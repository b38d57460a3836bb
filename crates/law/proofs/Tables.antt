-- The single table is what the history shows at its clock, and what it keeps of an open session is the session's turn.
use Rattle.std.proofs.Common.{◌≡◌, ℕ, ◌+◌, ◌≤◌, Bool, true, false, cond, eqb, List, [], ◌∷◌, is_some, Some, None, Option, sym, refl, ap, ◌∙◌, subst, inl, inr, arith, Ok, Err}
use Rattle.std.proofs.lemmas.Bool.{ne_eqb, le-leb, lt-leb}
use Rattle.rules.specs.Outcomes.{Told}
use Rattle.rules.specs.declared.sheet.Mode.{Mode}
use Rattle.rules.specs.declared.answers.Answer.TheVariants as answer
use Rattle.rules.specs.declared.answers.Call.{Call}
use Rattle.rules.specs.declared.answers.Call.TheVariants as call
use Rattle.rules.specs.Refusals.{is_stale}
use Rattle.versions.specs.Writes.{no_writes, over, upd}
use Rattle.versions.specs.History.{Commit, Turn, History, shown, turn_writes, turn_read, with_turn, wrote, had, begins, closes, commits_at, feed, feed_commit, fresh}
use Rattle.law.specs.Runs.{Event}
use Rattle.law.specs.Single.{Single, Visit, with_write, began, committed, fed, all_fed, at_start}
use Rattle.law.proofs.Past.{by_served, Answered, CommitFact, Fact, Facts, feeds, Past, past_step, shown_past}

module _ {R : Type 0} where
  -- what is kept of a session that is open
  abbrev pub Visits : Visit R → List (Commit R) → Option (Turn R) → Type 0
  Visits v cs None = Unit {0}
  Visits v cs (Some y) =
      (v.read ≡ y.read) × ((k : ℕ) → v.writes k ≡ y.writes k) × ((k : ℕ) → v.had k ≡ is_some (shown cs y.read k))

  pub record Same (x : Single R) (T : History R) : Type 0 where
    pub clock : x.clock ≡ T.clock
    pub table : (k : ℕ) → x.table k ≡ shown T.commits T.clock k
    pub visit : (s : ℕ) → Visits (x.visit s) T.commits (T.turn s)

  pub same_start : (c : ℕ) → Same (at_start c) (fresh c)
  same_start c = record { clock = refl; table = λ k. refl; visit = λ s. tt }

  module _ (x : Single R) (T : History R) (p : Past T) (e : Same x T) where
    same_begin : (s : ℕ) (m : Mode) → Same (began x s) (begins T s m)
    same_begin s m = record {
      clock = e.clock;
      table = e.table;
      visit = λ u. go u (eqb u s);
    }
      where
        go : (u : ℕ) (t : Bool) → Visits (cond t (record { read = x.clock; had = λ k. is_some (x.table k); writes = no_writes }) (x.visit u)) T.commits
            (cond t (Some (record { mode = m; read = T.clock; writes = no_writes })) (T.turn u))
        go u true = (e.clock, λ k. refl, λ k. ap is_some (e.table k))
        go u false = e.visit u

    -- a write of s: `w` is the single table's, `v` the history's
    same_write : (s k : ℕ) (w v : Option (Option R)) → ((y : Turn R) → T.turn s ≡ Some y → w ≡ v)
        → Same (with_write x s k w) (with_turn T s (wrote (T.turn s) k v))
    same_write s k w v f = record { clock = e.clock; table = e.table; visit = λ u. go u (eqb u s) refl }
      where
        new : (o : Option (Turn R)) → T.turn s ≡ o → Visits (x.visit s) T.commits o
            → Visits (record { read = (x.visit s).read; had = (x.visit s).had; writes = upd (x.visit s).writes k w }) T.commits (wrote o k v)
        new None q h = tt
        new (Some y) q h =
            (h.0, λ j. upd_both j (eqb j k), h.2)
          where
            upd_both : (j : ℕ) (t : Bool) → cond t w ((x.visit s).writes j) ≡ cond t v (y.writes j)
            upd_both j true = f y q
            upd_both j false = h.1 j

        go : (u : ℕ) (t : Bool) → eqb u s ≡ t
            → Visits (cond t (record { read = (x.visit s).read; had = (x.visit s).had; writes = upd (x.visit s).writes k w }) (x.visit u)) T.commits
            (cond t (wrote (T.turn s) k v) (T.turn u))
        go u true q = new (T.turn s) refl (e.visit s)
        go u false q = e.visit u

    same_drop : (s k : ℕ) (y : Turn R) → T.turn s ≡ Some y
        → ◌≡◌ {A = Option (Option R)} (cond ((x.visit s).had k) (Some None) None) (cond (had T s k) (Some None) None)
    same_drop s k y q =
        let h : Visits (x.visit s) T.commits (Some y) = subst (Visits (x.visit s) T.commits) q (e.visit s) in
        ap (λ t. cond t (Some None) None) (h.2 k ∙ ap (λ o. is_some (shown T.commits (turn_read o) k)) (sym q))

    same_close : (s : ℕ) → Same x (closes T s)
    same_close s = record { clock = e.clock; table = e.table; visit = λ u. go u (eqb u s) }
      where
        go : (u : ℕ) (t : Bool) → Visits (x.visit u) T.commits (cond t None (T.turn u))
        go u true = tt
        go u false = e.visit u

    abbrev next : ℕ
    next = T.clock + 1

    abbrev new_commit : ℕ → Commit R
    new_commit s = record { stamp = next; writes = turn_writes (T.turn s) }

    -- below the new stamp nothing changes
    shown_below : (s t k : ℕ) → t ≤ T.clock → shown (new_commit s ∷ T.commits) t k ≡ shown T.commits t k
    shown_below s t k l = let q = lt-leb next t (omega arith) in rw q refl

    shown_next : (s k : ℕ) → shown (new_commit s ∷ T.commits) next k ≡ over (turn_writes (T.turn s) k) (shown T.commits T.clock k)
    shown_next s k =
        let q = le-leb next next (omega arith) in
        let r = shown_past T.commits T.clock next k p.stamps (omega arith) in
        rw (q, r) refl

    same_commit : (s : ℕ) (y : Turn R) → T.turn s ≡ Some y
        → Same (record { clock = next; table = λ k. over ((x.visit s).writes k) (x.table k); visit = x.visit }) (commits_at T s next)
    same_commit s y q = record {
      clock = refl;
      table = λ k. ap (λ w. over w (x.table k)) (h.1 k ∙ ap (λ o. turn_writes o k) (sym q))
          ∙ (ap (over (turn_writes (T.turn s) k)) (e.table k) ∙ sym (shown_next s k));
      visit = λ u. go u (eqb u s);
    }
      where
        h : Visits (x.visit s) T.commits (Some y)
        h = subst (Visits (x.visit s) T.commits) q (e.visit s)

        still : (u : ℕ) (o : Option (Turn R)) → T.turn u ≡ o → Visits (x.visit u) T.commits o → Visits (x.visit u) (new_commit s ∷ T.commits) o
        still u None z v = tt
        still u (Some w) z v = (v.0, v.1, λ k. v.2 k ∙ ap is_some (sym (shown_below s w.read k (p.reads u w z))))

        go : (u : ℕ) (t : Bool) → Visits (x.visit u) (new_commit s ∷ T.commits) (cond t None (T.turn u))
        go u true = tt
        go u false = still u (T.turn u) refl (e.visit u)

module _ {K R : Type 0} (number : K → ℕ) where
  pub same_step : (x : Single R) (T : History R) (c : Call K R) (a : Told R)
      → Past T → Same x T → Fact T c a → Same (fed number x c a) (feed number T c a)
  same_step x T (call.Begin s m) a p e f = by_served Same a (same_begin x T p e s m) e
  same_step x T (call.Read s k) a p e f = e
  same_step x T (call.Put s k r) a p e f = by_served Same a (same_write x T p e s (number k) _ _ (λ y q. refl)) e
  same_step x T (call.Drop s k) a p e f = by_served Same a (same_write x T p e s (number k) _ _ (same_drop x T p e s (number k))) e
  same_step x T (call.Commit s) a p e f = go a f
    where
      stale : (t : Bool) → Same x (cond t (closes T s) T)
      stale true = same_close x T p e s
      stale false = e

      stamp : (n : ℕ) → Answered T s n → Same (committed x s (Ok (answer.At n))) (feed_commit T s (Ok (answer.At n)))
      stamp n g = elim g.2 [
        | inl z ↦ rw z.0 (same_close x T p e s)
        | inr z ↦ rw (z, ne_eqb (T.clock + 1) 0 (λ w. omega arith)) (same_commit x T p e s g.0 g.1)
      ]

      go : (a : Told R) → CommitFact T s a → Same (committed x s a) (feed_commit T s a)
      go (Ok answer.Done) f = e
      go (Ok (answer.Row o)) f = e
      go (Ok (answer.Was o)) f = e
      go (Ok (answer.At n)) f = stamp n f
      go (Ok (answer.Tag n)) f = e
      go (Ok (answer.Swept o)) f = e
      go (Err w) f = stale (is_stale w)
  same_step x T (call.Abandon s) a p e f = by_served (λ z U. Same x U) a {x = x} {y = x} (same_close x T p e s) e
  same_step x T (call.Choose k) a p e f = e
  same_step x T (call.Copy t) a p e f = e
  same_step x T (call.Settle t) a p e f = e
  same_step x T (call.GiveUp t) a p e f = e
  same_step x T call.Sweep a p e f = e
  same_step x T call.Collect a p e f = e

  -- over a whole list of events
  pub past_all : (es : List (Event K R)) (T : History R) → Past T → Facts number T es → Past (feeds number T es)
  unfolding feeds Facts
  past_all [] T p f = p
  past_all (ev ∷ es) T p f = past_all es (feed number T ev.call ev.answer) (past_step number T ev.call ev.answer p f.0) f.1

  pub same_all : (es : List (Event K R)) (x : Single R) (T : History R) → Past T → Same x T → Facts number T es
      → Same (all_fed number x es) (feeds number T es)
  unfolding feeds Facts all_fed
  same_all [] x T p e f = e
  same_all (ev ∷ es) x T p e f =
      same_all es (fed number x ev.call ev.answer) (feed number T ev.call ev.answer)
      (past_step number T ev.call ev.answer p f.0) (same_step x T ev.call ev.answer p e f.0) f.1
