-- What the answers of a run tell of the history: a begin is served to a session that is not open, and a commit that is served
-- answers 0 where the session wrote nothing, else the next stamp.
use Rattle.std.proofs.Common.{◌≡◌, ℕ, ◌+◌, false, not, ltb, leb, List, [], ◌∷◌, ◌++◌, Some, None, Option, refl, ap, subst, inl, inr}
use Rattle.std.proofs.lemmas.Bool.{cond_both, not-true}
use Rattle.rules.specs.declared.sheet.Mode.{Mode}
use Rattle.rules.specs.declared.sheet.Reading.{Reading}
use Rattle.rules.specs.declared.answers.Refusal.TheVariants as refusal
use Rattle.rules.specs.declared.answers.Answer.TheVariants as answer
use Rattle.rules.specs.declared.answers.Call.{Call}
use Rattle.rules.specs.declared.answers.Call.TheVariants as call
use Rattle.rules.specs.Stores.{Store, session_at, opened_at, with_session}
use Rattle.rules.specs.Outcomes.{Told, Outcome, served, refused, if_open}
use Rattle.rules.specs.Selling.{begin_rule, commit_rule, has_marks, stale}
use Rattle.versions.specs.History.{Turn, History, turn_writes, feed}
use Rattle.cells.proofs.Cells.{Whole}
use Rattle.cells.proofs.Sessions.{reader, closed_turn}
use Rattle.cells.proofs.Traces.{marked_none}
use Rattle.law.specs.Runs.{Event, Step, Runs}
use Rattle.law.proofs.Past.{BeginFact, CommitFact, Fact, Facts, feeds}
use Rattle.law.proofs.Steps.{lent_own, session_ok, step_ok}

module _ {K R : Type 0} (number : K → ℕ) where
  module _ (σ : Store K R) (T : History R) (w : Whole number σ T) where
    abbrev TellsBegin : ℕ → Outcome K R → Type 0
    TellsBegin s z = BeginFact T s z.answer

    begin_fact : (s : ℕ) (m : Mode) → TellsBegin s (begin_rule σ.lengths σ s m)
    begin_fact s m = lent_own (TellsBegin s) _ σ σ _
        (cond_both (ltb 63 s) _ _ (TellsBegin s) (λ _. tt) (λ _. go (session_at σ.sessions s).reading refl))
      where
        go : (o : Option Reading) → (session_at σ.sessions s).reading ≡ o
            → TellsBegin s (if_open o (λ _ _. refused refusal.AlreadyOpen σ) (served answer.Done (with_session σ s (opened_at m σ.clock))))
        go None e = closed_turn number (session_at σ.sessions s).reading (T.turn s) (w.agree s) e
        go (Some r) e = tt

    abbrev TellsCommit : ℕ → Outcome K R → Type 0
    TellsCommit s z = CommitFact T s z.answer

    unwritten : (s k : ℕ) (y : Turn R) → T.turn s ≡ Some y → has_marks σ s ≡ false → y.writes k ≡ None
    unwritten s k y e h = marked_none number σ T w s k h (y.writes k) (ap (λ o. turn_writes o k) e)

    commit_fact : (s : ℕ) → TellsCommit s (commit_rule number σ.lengths σ s)
    commit_fact s = lent_own (TellsCommit s) _ σ _ _ (session_ok (TellsCommit s) σ _ s _ tt tt (λ r l e.
        let o = reader number σ T w s r e in
        cond_both (not (has_marks σ s)) _ _ (TellsCommit s)
        (λ un. (o.turn, o.has, inl (refl, λ k. unwritten s k o.turn o.has (not-true (has_marks σ s) un)))) (λ _.
        cond_both (stale number σ r.mode s r.time) _ _ (TellsCommit s) (λ _. tt) (λ _.
        cond_both (leb 4000000000 σ.clock) _ _ (TellsCommit s) (λ _. tt)
        (λ _. (o.turn, o.has, inr (ap (λ c. c + 1) w.clock)))))))

  pub fact_of : (σ ρ : Store K R) (T : History R) → Whole number σ T → (c : Call K R) (a : Told R) → Step number σ c a ρ → Fact T c a
  fact_of σ ρ T w (call.Begin s m) a e = subst (TellsBegin σ T w s) e (begin_fact σ T w s m)
  fact_of σ ρ T w (call.Read s k) a e = tt
  fact_of σ ρ T w (call.Put s k r) a e = tt
  fact_of σ ρ T w (call.Drop s k) a e = tt
  fact_of σ ρ T w (call.Commit s) a e = subst (TellsCommit σ T w s) e (commit_fact σ T w s)
  fact_of σ ρ T w (call.Abandon s) a e = tt
  fact_of σ ρ T w (call.Choose k) a e = tt
  fact_of σ ρ T w (call.Copy t) a e = tt
  fact_of σ ρ T w (call.Settle t) a e = tt
  fact_of σ ρ T w (call.GiveUp t) a e = tt
  fact_of σ ρ T w call.Sweep a e = tt
  fact_of σ ρ T w call.Collect a e = tt

  pub facts_of : (es : List (Event K R)) (σ τ : Store K R) (T : History R) → Whole number σ T → Runs number σ es τ → Facts number T es
  unfolding Runs Facts
  facts_of [] σ τ T w r = tt
  facts_of (ev ∷ es) σ τ T w r = (
    fact_of σ r.0 T w ev.call ev.answer r.1,
    facts_of es r.0 τ (feed number T ev.call ev.answer) (step_ok number σ r.0 T ev.call ev.answer w r.1) r.2,
  )

  pub facts_cut : (es fs : List (Event K R)) (T : History R) → Facts number T (es ++ fs) → Facts number T es × Facts number (feeds number T es) fs
  unfolding Facts feeds
  facts_cut [] fs T f = (tt, f)
  facts_cut (ev ∷ es) fs T f = let g = facts_cut es fs (feed number T ev.call ev.answer) f.1 in ((f.0, g.0), g.1)
