-- How abandon and commit leave, each way against the rule.
use Rattle.std.proofs.Common.{◌≡◌, ℕ, ◌+◌, ◌<◌, ◌≤◌, true, false, cond, not, leb, Ok, sym, ◌∙◌}
use Rattle.std.proofs.lemmas.Bool.{cond-true, cond-false, le-leb, lt-leb, not_from_true, not_from_false}
use Rattle.rules.specs.declared.sheet.Mode.{Mode}
use Rattle.rules.specs.declared.sheet.Reading.{Reading}
use Rattle.rules.specs.declared.answers.Refusal.TheVariants as refusal
use Rattle.rules.specs.declared.answers.Answer.TheVariants as answer
use Rattle.rules.specs.Stores.{Store, Lengths}
use Rattle.rules.specs.Outcomes.{Outcome, served, refused}
use Rattle.rules.specs.Selling.{has_marks, stale, close, stamped, undone, abandon_rule, commit_rule}
use Rattle.seller.specs.Admitted.{admitted}
use Rattle.seller.proofs.Admission.{is_admitted}

module _ {K R : Type 0} (lent : Lengths) (σ : Store K R) (s : ℕ) where
  abbrev abandoned : Mode → ℕ → Outcome K R
  abandoned mode t = served answer.Done (close (undone σ s) s)

  pub abandon_served : {r : Reading} → Ok r ≡ admitted lent σ s → served answer.Done (close (undone σ s) s) ≡ abandon_rule lent σ s
  abandon_served q = is_admitted lent σ σ s abandoned q

module _ {K R : Type 0} (number : K → ℕ) (lent : Lengths) (σ : Store K R) (s : ℕ) where
  abbrev committed : Mode → ℕ → Outcome K R
  committed mode t =
      cond (not (has_marks σ s)) (served (answer.At 0) (close σ s))
      (cond (stale number σ mode s t) (refused refusal.StaleRead (close (undone σ s) s))
      (cond (leb 4000000000 σ.clock) (refused refusal.ClockAtEnd σ)
      (served (answer.At (σ.clock + 1)) (close (stamped σ s (σ.clock + 1)) s))))

  module _ (r : Reading) (q : Ok r ≡ admitted lent σ s) where
    pub commit_unmarked : false ≡ has_marks σ s → served (answer.At 0) (close σ s) ≡ commit_rule number lent σ s
    commit_unmarked m = sym (cond-true _ _ _ (not_from_false (has_marks σ s) (sym m))) ∙ is_admitted lent σ σ s committed q

    module _ (m : true ≡ has_marks σ s) where
      pub commit_stale : true ≡ stale number σ r.mode s r.time
          → refused refusal.StaleRead (close (undone σ s) s) ≡ commit_rule number lent σ s
      commit_stale e =
          sym (cond-true _ _ _ (sym e)) ∙ sym (cond-false _ _ _ (not_from_true (has_marks σ s) (sym m))) ∙ is_admitted lent σ σ s committed q

      module _ (e : false ≡ stale number σ r.mode s r.time) where
        past : cond (leb 4000000000 σ.clock) (refused refusal.ClockAtEnd σ)
            (served (answer.At (σ.clock + 1)) (close (stamped σ s (σ.clock + 1)) s)) ≡ commit_rule number lent σ s
        past =
            sym (cond-false _ _ _ (sym e)) ∙ sym (cond-false _ _ _ (not_from_true (has_marks σ s) (sym m))) ∙ is_admitted lent σ σ s committed q

        pub commit_late : 4000000000 ≤ σ.clock → refused refusal.ClockAtEnd σ ≡ commit_rule number lent σ s
        commit_late h = sym (cond-true _ _ _ (le-leb 4000000000 σ.clock h)) ∙ past

        pub commit_stamped : σ.clock < 4000000000
            → served (answer.At (σ.clock + 1)) (close (stamped σ s (σ.clock + 1)) s) ≡ commit_rule number lent σ s
        commit_stamped h = sym (cond-false _ _ _ (lt-leb 4000000000 σ.clock h)) ∙ past
