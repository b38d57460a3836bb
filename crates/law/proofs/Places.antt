-- The writes of the sessions placed earlier, carried out in turn, leave what the history shows just before the place.
use Rattle.std.proofs.Common.{◌≡◌, ℕ, ◌+◌, ◌*◌, ◌<◌, Bool, true, false, cond, ltb, leb, List, [], ◌∷◌, ◌++◌, None, Option, sym, refl, ap, ◌∙◌, subst, inl, inr, append_assoc, append-nil, arith, Ok, Err}
use Rattle.std.specs.List.{AllByRecursion as All}
use Rattle.std.proofs.ByRecursion.{All-weaker, All-append, all_kept_by}
use Rattle.std.proofs.lemmas.Bool.{ne_eqb, lt-leb}
use Rattle.std.proofs.lemmas.Bool.Decides.{nat_tests}
use Rattle.rules.specs.Outcomes.{Told}
use Rattle.rules.specs.declared.answers.Answer.TheVariants as answer
use Rattle.rules.specs.declared.answers.Call.{Call}
use Rattle.rules.specs.declared.answers.Call.TheVariants as call
use Rattle.rules.specs.Refusals.{is_stale}
use Rattle.slots.specs.Lists.{kept, one}
use Rattle.slots.proofs.Folds.{kept_append}
use Rattle.slots.proofs.Edits.{kept_hit, kept_miss}
use Rattle.versions.specs.Writes.{over}
use Rattle.versions.specs.History.{Commit, History, shown, turn_writes, closes, commits_at, feed, feed_commit, fresh}
use Rattle.law.specs.Runs.{Event}
use Rattle.law.specs.Single.{Single, Table, no_rows, carry_out, fed}
use Rattle.law.specs.Episodes.{Placed, place, placed_commit, placed_by, placed, put_by_place, all_by_place, by_place, all_carried, earlier}
use Rattle.law.proofs.Past.{by_served, Answered, CommitFact, Fact, Facts, feeds, Past, past_step}
use Rattle.law.proofs.Tables.{Visits, Same, same_step}

module _ {R : Type 0} where
  -- the newest commit placed before p that writes the key decides
  unfoldable pub shown_before : List (Commit R) → ℕ → ℕ → Option R
  shown_before [] p k = None
  shown_before (c ∷ cs) p k = cond (ltb (2 * c.stamp) p) (over (c.writes k) (shown_before cs p k)) (shown_before cs p k)

  -- just after t, and just before the stamp after t, it is what is shown at t
  pub before_after : (cs : List (Commit R)) (t k : ℕ) → shown_before cs (2 * t + 1) k ≡ shown cs t k
  unfolding shown_before
  before_after [] t k = refl
  before_after (c ∷ cs) t k =
      let ih = before_after cs t k in
      let e : ltb (2 * c.stamp) (2 * t + 1) ≡ leb c.stamp t = grind (arith, nat_tests) in
      rw (e, ih) refl

  pub before_next : (cs : List (Commit R)) (t k : ℕ) → shown_before cs (2 * (t + 1)) k ≡ shown cs t k
  unfolding shown_before
  before_next [] t k = refl
  before_next (c ∷ cs) t k =
      let ih = before_next cs t k in
      let e : ltb (2 * c.stamp) (2 * (t + 1)) ≡ leb c.stamp t = grind (arith, nat_tests) in
      rw (e, ih) refl

  -- carrying out is done key by key
  carried_same : (ds : List (Placed R)) (t u : Table R) (k : ℕ) → t k ≡ u k → all_carried ds t k ≡ all_carried ds u k
  unfolding all_carried
  carried_same [] t u k e = e
  carried_same (d ∷ ds) t u k e = carried_same ds (carry_out d.writes t) (carry_out d.writes u) k (ap (over (d.writes k)) e)

  carried_last : (ds : List (Placed R)) (c : Placed R) (t : Table R) (k : ℕ)
      → all_carried (ds ++ one c) t k ≡ over (c.writes k) (all_carried ds t k)
  unfolding all_carried
  carried_last [] c t k = refl
  carried_last (d ∷ ds) c t k = carried_last ds c (carry_out d.writes t) k

  -- one that does not write the key may be put in anywhere
  carried_idle : (c : Placed R) (ds : List (Placed R)) (t : Table R) (k : ℕ) → c.writes k ≡ None
      → all_carried (put_by_place c ds) t k ≡ all_carried ds t k
  unfolding all_carried put_by_place
  carried_idle c [] t k e = rw e refl
  carried_idle c (d ∷ ds) t k e = go (leb c.at d.at) (carried_idle c ds (carry_out d.writes t) k e)
    where
      go : (b : Bool) → all_carried (put_by_place c ds) (carry_out d.writes t) k ≡ all_carried ds (carry_out d.writes t) k
          → all_carried (cond b (c ∷ (d ∷ ds)) (d ∷ put_by_place c ds)) t k ≡ all_carried (d ∷ ds) t k
      go true ih = carried_same (d ∷ ds) (carry_out c.writes t) t k (rw e refl)
      go false ih = ih

  -- the latest goes to the end
  put_last : (c : Placed R) (ds : List (Placed R)) → All (λ d. d.at < c.at) ds → put_by_place c ds ≡ ds ++ one c
  unfolding put_by_place
  put_last c [] a = refl
  put_last c (d ∷ ds) a =
      let low = a.0 in
      let e = lt-leb c.at d.at low in
      rw e (ap (λ z. d ∷ z) (put_last c ds a.1))

  put_all : (P : Placed R → Type 0) (c : Placed R) (ds : List (Placed R)) → P c → All P ds → All P (put_by_place c ds)
  unfolding put_by_place
  put_all P c [] p a = (p, tt)
  put_all P c (d ∷ ds) p a = go (leb c.at d.at) (put_all P c ds p a.1)
    where
      go : (b : Bool) → All P (put_by_place c ds) → All P (cond b (c ∷ (d ∷ ds)) (d ∷ put_by_place c ds))
      go true ih = (p, a)
      go false ih = (a.0, ih)

  by_place_all : (P : Placed R → Type 0) (cs ds : List (Placed R)) → All P ds → All P cs → All P (all_by_place ds cs)
  unfolding all_by_place
  by_place_all P [] ds a b = a
  by_place_all P (c ∷ cs) ds a b = by_place_all P cs (put_by_place c ds) (put_all P c ds b.0 a) b.1

  by_place_last : (cs ds : List (Placed R)) (c : Placed R) → all_by_place ds (cs ++ one c) ≡ put_by_place c (all_by_place ds cs)
  unfolding all_by_place
  by_place_last [] ds c = refl
  by_place_last (x ∷ cs) ds c = by_place_last cs (put_by_place x ds) c

  earlier_all : (P : Placed R → Type 0) (p : ℕ) (cs : List (Placed R)) → All P cs → All P (earlier p cs)
  unfolding kept
  earlier_all P p cs a = all_kept_by (λ c. ltb c.at p) P cs a

  earlier_last : (p : ℕ) (cs : List (Placed R)) (c : Placed R) (t : Bool) → ltb c.at p ≡ t
      → earlier p (cs ++ one c) ≡ earlier p cs ++ cond t (one c) []
  earlier_last p cs c true e = kept_append _ cs (one c) ∙ ap (λ z. earlier p cs ++ z) (kept_hit _ c e)
  earlier_last p cs c false e = kept_append _ cs (one c) ∙ ap (λ z. earlier p cs ++ z) (kept_miss _ c e)

  -- the committed sessions so far against the history
  pub record Placing (cs : List (Placed R)) (T : History R) : Type 0 where
    pub tops : All (λ c. c.at < 2 * (T.clock + 1)) cs
    pub carried : (p k : ℕ) → all_carried (by_place (earlier p cs)) no_rows k ≡ shown_before T.commits p k

  pub placing_fresh : (c : ℕ) → Placing [] (fresh c)
  unfolding kept all_by_place all_carried shown_before
  placing_fresh c = record { tops = tt; carried = λ p k. refl }

  -- a session without writes
  placing_idle : (cs : List (Placed R)) (T : History R) (c : Placed R) → Placing cs T
      → c.at < 2 * (T.clock + 1) → ((k : ℕ) → c.writes k ≡ None) → Placing (cs ++ one c) T
  placing_idle cs T c g low e = record {
    tops = All-append _ cs (one c) g.tops (low, tt);
    carried = λ p k. go p k (ltb c.at p) refl ∙ g.carried p k;
  }
    where
      go : (p k : ℕ) (t : Bool) → ltb c.at p ≡ t
          → all_carried (by_place (earlier p (cs ++ one c))) no_rows k ≡ all_carried (by_place (earlier p cs)) no_rows k
      go p k true t =
          ap (λ z. all_carried (by_place z) no_rows k) (earlier_last p cs c true t)
          ∙ (ap (λ z. all_carried z no_rows k) (by_place_last (earlier p cs) [] c)
          ∙ carried_idle c (by_place (earlier p cs)) no_rows k (e k))
      go p k false t =
          ap (λ z. all_carried (by_place z) no_rows k) (earlier_last p cs c false t ∙ append-nil (earlier p cs))

  -- a session with the next stamp
  placing_stamp : (cs : List (Placed R)) (T : History R) (c : Placed R) (d : Commit R) → Placing cs T
      → d.stamp ≡ T.clock + 1 → c.at ≡ 2 * (T.clock + 1) → ((k : ℕ) → c.writes k ≡ d.writes k)
      → (U : History R) → U.clock ≡ T.clock + 1 → U.commits ≡ d ∷ T.commits → Placing (cs ++ one c) U
  unfolding shown_before
  placing_stamp cs T c d g st pl e U uc um = record {
    tops = All-append _ cs (one c) (All-weaker _ _ (λ x l. rw uc (omega arith)) cs g.tops) (rw (uc, pl) (omega arith), tt);
    carried = λ p k. rw um (go p k (ltb c.at p) refl);
  }
    where
      last : (p : ℕ) → put_by_place c (by_place (earlier p cs)) ≡ by_place (earlier p cs) ++ one c
      last p = put_last c (by_place (earlier p cs))
          (by_place_all _ (earlier p cs) [] tt (earlier_all _ p cs (All-weaker _ _ (λ x l. rw pl l) cs g.tops)))

      same : (p : ℕ) (t : Bool) → ltb c.at p ≡ t → ltb (2 * d.stamp) p ≡ t
      same p t q = ap (λ z. ltb z p) (ap (λ z. 2 * z) st ∙ sym pl) ∙ q

      go : (p k : ℕ) (t : Bool) → ltb c.at p ≡ t
          → all_carried (by_place (earlier p (cs ++ one c))) no_rows k
          ≡ cond (ltb (2 * d.stamp) p) (over (d.writes k) (shown_before T.commits p k)) (shown_before T.commits p k)
      go p k true t =
          ap (λ z. all_carried (by_place z) no_rows k) (earlier_last p cs c true t)
          ∙ (ap (λ z. all_carried z no_rows k) (by_place_last (earlier p cs) [] c ∙ last p)
          ∙ (carried_last (by_place (earlier p cs)) c no_rows k
          ∙ rw (same p true t, e k, g.carried p k) refl))
      go p k false t =
          ap (λ z. all_carried (by_place z) no_rows k) (earlier_last p cs c false t ∙ append-nil (earlier p cs))
          ∙ (g.carried p k ∙ rw (same p false t) refl)

  -- a history with the same commits and clock
  placing_same : (cs : List (Placed R)) (T U : History R) → U.clock ≡ T.clock → U.commits ≡ T.commits → Placing cs T → Placing cs U
  placing_same cs T U uc um g = record {
    tops = subst (λ z. All (λ c. c.at < 2 * (z + 1)) cs) (sym uc) g.tops;
    carried = λ p k. g.carried p k ∙ ap (λ z. shown_before z p k) (sym um);
  }

module _ {K R : Type 0} (number : K → ℕ) where
  module _ (cs : List (Placed R)) (x : Single R) (T : History R) (p : Past T) (e : Same x T) (g : Placing cs T) where
    calm : (U : History R) → U.clock ≡ T.clock → U.commits ≡ T.commits → Placing (cs ++ []) U
    calm U uc um = subst (λ z. Placing z U) (sym (append-nil cs)) (placing_same cs T U uc um g)

    commit_place : (s n : ℕ) → Answered T s n
        → Placing (cs ++ placed_commit x s (Ok (answer.At n))) (feed_commit T s (Ok (answer.At n)))
    commit_place s n f = elim f.2 [ inl z ↦ idle z.0 z.1 | inr z ↦ stamp z ]
      where
        visit : ((x.visit s).read ≡ f.0.read) × ((k : ℕ) → (x.visit s).writes k ≡ f.0.writes k)
        visit = let v = subst (λ o. Visits (x.visit s) T.commits o) f.1 (e.visit s) in (v.0, v.1)

        idle : n ≡ 0 → ((k : ℕ) → f.0.writes k ≡ None) → Placing (cs ++ placed_commit x s (Ok (answer.At n))) (feed_commit T s (Ok (answer.At n)))
        idle z w = rw z (placing_same (cs ++ one (record { at = place (x.visit s).read 0; writes = (x.visit s).writes })) T (closes T s) refl refl
            (placing_idle cs T (record { at = place (x.visit s).read 0; writes = (x.visit s).writes }) g
            (let l = p.reads s f.0 f.1 in let r = visit.0 in omega arith)
            (λ k. visit.1 k ∙ w k)))

        stamp : n ≡ T.clock + 1 → Placing (cs ++ placed_commit x s (Ok (answer.At n))) (feed_commit T s (Ok (answer.At n)))
        stamp z = rw (z, ne_eqb (T.clock + 1) 0 (λ w. omega arith))
            (placing_stamp cs T (record { at = 2 * (T.clock + 1); writes = (x.visit s).writes })
            (record { stamp = T.clock + 1; writes = turn_writes (T.turn s) }) g refl refl
            (λ k. visit.1 k ∙ ap (λ o. turn_writes o k) (sym f.1)) (commits_at T s (T.clock + 1)) refl refl)

    pub placing_step : (c : Call K R) (a : Told R) → Fact T c a → Placing (cs ++ placed_by x c a) (feed number T c a)
    placing_step (call.Begin s m) a f = by_served (λ (_ : ℕ) U. Placing (cs ++ []) U) a {x = 0} {y = 0} (calm _ refl refl) (calm T refl refl)
    placing_step (call.Read s k) a f = calm T refl refl
    placing_step (call.Put s k r) a f = by_served (λ (_ : ℕ) U. Placing (cs ++ []) U) a {x = 0} {y = 0} (calm _ refl refl) (calm T refl refl)
    placing_step (call.Drop s k) a f = by_served (λ (_ : ℕ) U. Placing (cs ++ []) U) a {x = 0} {y = 0} (calm _ refl refl) (calm T refl refl)
    placing_step (call.Commit s) a f = go a f
      where
        stale : (t : Bool) → Placing (cs ++ []) (cond t (closes T s) T)
        stale true = calm _ refl refl
        stale false = calm T refl refl

        go : (a : Told R) → CommitFact T s a → Placing (cs ++ placed_commit x s a) (feed_commit T s a)
        go (Ok answer.Done) f = calm T refl refl
        go (Ok (answer.Row o)) f = calm T refl refl
        go (Ok (answer.Was o)) f = calm T refl refl
        go (Ok (answer.At n)) f = commit_place s n f
        go (Ok (answer.Tag n)) f = calm T refl refl
        go (Ok (answer.Swept o)) f = calm T refl refl
        go (Err w) f = stale (is_stale w)
    placing_step (call.Abandon s) a f = by_served (λ (_ : ℕ) U. Placing (cs ++ []) U) a {x = 0} {y = 0} (calm _ refl refl) (calm T refl refl)
    placing_step (call.Choose k) a f = calm T refl refl
    placing_step (call.Copy t) a f = calm T refl refl
    placing_step (call.Settle t) a f = calm T refl refl
    placing_step (call.GiveUp t) a f = calm T refl refl
    placing_step call.Sweep a f = calm T refl refl
    placing_step call.Collect a f = calm T refl refl

  -- over a whole list of events
  pub placing_all : (es : List (Event K R)) (cs : List (Placed R)) (x : Single R) (T : History R) → Past T → Same x T → Facts number T es
      → Placing cs T → Placing (cs ++ placed number x es) (feeds number T es)
  unfolding feeds Facts placed
  placing_all [] cs x T p e f g = subst (λ z. Placing z T) (sym (append-nil cs)) g
  placing_all (ev ∷ es) cs x T p e f g =
      let c = ev.call in
      let a = ev.answer in
      subst (λ z. Placing z (feeds number (feed number T c a) es)) (append_assoc cs (placed_by x c a) (placed number (fed number x c a) es))
      (placing_all es (cs ++ placed_by x c a) (fed number x c a) (feed number T c a)
      (past_step number T c a p f.0) (same_step number x T c a p e f.0) f.1 (placing_step cs x T p e g c a f.0))
