-- What comes later writes above the clock, and what is shown at or below it stays.
use Rattle.std.proofs.Common.{◌≡◌, ℕ, ◌+◌, ◌<◌, ◌≤◌, Bool, true, false, cond, ◌&&◌, ltb, leb, List, [], ◌∷◌, is_some, Some, None, Option, refl, ap, ◌∙◌, inl, inr, arith, Ok, Err}
use Rattle.std.proofs.lemmas.Bool.{cases_lt, le-leb, lt-leb, lt-ltb, or_parts}
use Rattle.rules.specs.Outcomes.{Told}
use Rattle.rules.specs.declared.answers.Answer.TheVariants as answer
use Rattle.rules.specs.declared.answers.Call.{Call}
use Rattle.rules.specs.declared.answers.Call.TheVariants as call
use Rattle.rules.specs.Refusals.{is_stale}
use Rattle.slots.specs.Lists.{any}
use Rattle.versions.specs.Writes.{over}
use Rattle.versions.specs.History.{Commit, History, shown, closes, feed, feed_commit}
use Rattle.versions.proofs.Versions.{wrote_above}
use Rattle.law.specs.Runs.{Event}
use Rattle.law.proofs.Past.{by_served, CommitFact, Fact, Facts, feeds, by_answer}

module _ {R : Type 0} where
  pub record Later (T U : History R) : Type 0 where
    pub clock : T.clock ≤ U.clock
    pub still : (t k : ℕ) → t ≤ T.clock → shown U.commits t k ≡ shown T.commits t k

  -- the same clock and commits
  calm : (T U : History R) → U.clock ≡ T.clock → U.commits ≡ T.commits → Later T U
  calm T U c m = record { clock = omega arith; still = λ t k l. ap (λ z. shown z t k) m }

  -- a key that nothing wrote since r is shown as at r
  pub shown_still : (cs : List (Commit R)) (r t k : ℕ) → r ≤ t → wrote_above cs r k ≡ false → shown cs t k ≡ shown cs r k
  unfolding any
  shown_still [] r t k l h = refl
  shown_still (c ∷ cs) r t k l h =
      let p = or_parts (ltb r c.stamp && is_some (c.writes k)) (wrote_above cs r k) h in
      let ih = shown_still cs r t k l p.1 in
      elim (cases_lt r c.stamp) [
        | inl above ↦ go (c.writes k) refl above p.0 ih
        | inr below ↦ rw (le-leb c.stamp t (omega arith), le-leb c.stamp r below, ih) refl
      ]
    where
      either : (a b : Bool) (z : Option R) → cond a z z ≡ cond b z z
      either true true z = refl
      either true false z = refl
      either false true z = refl
      either false false z = refl

      go : (o : Option (Option R)) → c.writes k ≡ o → r < c.stamp → (ltb r c.stamp && is_some (c.writes k)) ≡ false
          → shown cs t k ≡ shown cs r k
          → cond (leb c.stamp t) (over (c.writes k) (shown cs t k)) (shown cs t k)
          ≡ cond (leb c.stamp r) (over (c.writes k) (shown cs r k)) (shown cs r k)
      go None e above none ih = rw (e, ih) (either (leb c.stamp t) (leb c.stamp r) (shown cs r k))
      go (Some w) e above none ih =
          absurd (let u : (ltb r c.stamp && true) ≡ false = rw e at none in let v = lt-ltb r c.stamp above in
          cc)

module _ {K R : Type 0} (number : K → ℕ) where
  later_step : (T : History R) (c : Call K R) (a : Told R) → Fact T c a → Later T (feed number T c a)
  later_step T (call.Begin s m) a f = by_served (λ (_ : ℕ) U. Later T U) a {x = 0} {y = 0} (calm T _ refl refl) (calm T T refl refl)
  later_step T (call.Read s k) a f = calm T T refl refl
  later_step T (call.Put s k r) a f = by_served (λ (_ : ℕ) U. Later T U) a {x = 0} {y = 0} (calm T _ refl refl) (calm T T refl refl)
  later_step T (call.Drop s k) a f = by_served (λ (_ : ℕ) U. Later T U) a {x = 0} {y = 0} (calm T _ refl refl) (calm T T refl refl)
  later_step T (call.Commit s) a f = go a f
    where
      stale : (t : Bool) → Later T (cond t (closes T s) T)
      stale true = calm T _ refl refl
      stale false = calm T T refl refl

      go : (a : Told R) → CommitFact T s a → Later T (feed_commit T s a)
      go (Ok answer.Done) f = calm T T refl refl
      go (Ok (answer.Row o)) f = calm T T refl refl
      go (Ok (answer.Was o)) f = calm T T refl refl
      go (Ok (answer.At n)) f = by_answer T s n (λ _ U. Later T U) f (calm T _ refl refl)
          (record { clock = omega arith; still = λ t k l. rw (lt-leb (T.clock + 1) t (omega arith)) refl })
      go (Ok (answer.Tag n)) f = calm T T refl refl
      go (Ok (answer.Swept o)) f = calm T T refl refl
      go (Err e) f = stale (is_stale e)
  later_step T (call.Abandon s) a f = by_served (λ (_ : ℕ) U. Later T U) a {x = 0} {y = 0} (calm T _ refl refl) (calm T T refl refl)
  later_step T (call.Choose k) a f = calm T T refl refl
  later_step T (call.Copy t) a f = calm T T refl refl
  later_step T (call.Settle t) a f = calm T T refl refl
  later_step T (call.GiveUp t) a f = calm T T refl refl
  later_step T call.Sweep a f = calm T T refl refl
  later_step T call.Collect a f = calm T T refl refl

  pub later_all : (es : List (Event K R)) (T : History R) → Facts number T es → Later T (feeds number T es)
  unfolding Facts feeds
  later_all [] T f = calm T T refl refl
  later_all (ev ∷ es) T f =
      let a = later_step T ev.call ev.answer f.0 in
      let b = later_all es (feed number T ev.call ev.answer) f.1 in
      record {
        clock = let x = a.clock in let y = b.clock in omega arith;
        still = λ t k l. b.still t k (let x = a.clock in omega arith) ∙ a.still t k l;
      }
