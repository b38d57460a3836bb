-- The calls that are not by sellers leave the ledger and the history.
use Rattle.std.proofs.Common.{◌≡◌, ℕ, Bool, false, not, leb, Some, None, Ok, Err, Option, Result, refl, subst}
use Rattle.std.proofs.lemmas.Bool.{cond_both, true≢false}
use Rattle.slots.specs.Lists.{any, first}
use Rattle.cold.specs.Cold.{put_answer}
use Rattle.cold.specs.declared.store.ColdRefusal.{ColdRefusal}
use Rattle.rules.specs.declared.tables.HotRow.{HotRow}
use Rattle.rules.specs.declared.tables.Notice.{Notice}
use Rattle.rules.specs.declared.tables.Kind.{Kind}
use Rattle.rules.specs.declared.notices.NoticeEvent.TheVariants.{Empty}
use Rattle.rules.specs.declared.answers.Call.{Call}
use Rattle.rules.specs.declared.answers.Call.TheVariants as call
use Rattle.rules.specs.Notices.{becomes}
use Rattle.rules.specs.Stores.{Store, with_admits, memo_full}
use Rattle.rules.specs.Outcomes.{Told, Outcome}
use Rattle.rules.specs.Moving.{choose_row, copy_row, copy_put, settle_row, sweep_notice, sweep_kind, movable, row_chosen, row_copied, row_bears, unmoved, due}
use Rattle.versions.specs.History.{History, feed}
use Rattle.law.specs.Runs.{Step, by_seller}
use Rattle.law.proofs.Steps.{lent_own}

module _ {K R : Type 0} (number : K → ℕ) where
  module _ (σ : Store K R) where
    -- the store after has the ledger of σ
    abbrev Leaves : Outcome K R → Type 0
    Leaves z = (z.after.lengths.lines ≡ σ.lengths.lines) × (z.after.ledger ≡ σ.ledger)

    choose_leaves : (k : K) (o : Option (HotRow K R)) → Leaves (choose_row number σ k o)
    choose_leaves k None = (refl, refl)
    choose_leaves k (Some h) =
        cond_both (not (unmoved h.mark)) _ _ Leaves (λ _. (refl, refl)) (λ _.
        cond_both (leb 4000000000 σ.last_tag) _ _ Leaves (λ _. (refl, refl)) (λ _.
        cond_both (memo_full σ) _ _ Leaves (λ _. (refl, refl)) (λ _. (refl, refl))))

    copy_leaves : (tag : ℕ) (new : ℕ → Bool) (o : Option (HotRow K R)) → Leaves (copy_row number σ tag new o)
    copy_leaves tag new None = (refl, refl)
    copy_leaves tag new (Some h) = go (put_answer σ.limit σ.cold (number h.key) tag)
      where
        go : (z : Result (Unit {0}) ColdRefusal) → Leaves (copy_put number (with_admits σ new) tag h z)
        go (Ok x) = (refl, refl)
        go (Err why) = (refl, refl)

    settle_leaves : (tag : ℕ) (o : Option (HotRow K R)) → Leaves (settle_row number σ tag o)
    settle_leaves tag None = (refl, refl)
    settle_leaves tag (Some h) = (refl, refl)

    sweep_leaves : (o : Option (Notice K)) → Leaves (sweep_notice number σ o)
    sweep_leaves None = (refl, refl)
    sweep_leaves (Some n) = go (becomes n.kind Empty)
      where
        go : (o : Option Kind) → Leaves (sweep_kind number σ n o)
        go None = (refl, refl)
        go (Some kind) = (refl, refl)

    pub ledger_stays : (c : Call K R) (a : Told R) (ρ : Store K R) → by_seller c ≡ false → Step number σ c a ρ
        → (ρ.lengths.lines ≡ σ.lengths.lines) × (ρ.ledger ≡ σ.ledger)
    ledger_stays (call.Begin s m) a ρ h e = absurd (true≢false h)
    ledger_stays (call.Read s k) a ρ h e = absurd (true≢false h)
    ledger_stays (call.Put s k r) a ρ h e = absurd (true≢false h)
    ledger_stays (call.Drop s k) a ρ h e = absurd (true≢false h)
    ledger_stays (call.Commit s) a ρ h e = absurd (true≢false h)
    ledger_stays (call.Abandon s) a ρ h e = absurd (true≢false h)
    ledger_stays (call.Choose k) a ρ h e =
        subst Leaves e (lent_own Leaves _ σ _ _ (choose_leaves k (first (movable number (number k)) σ.hot)))
    ledger_stays (call.Copy t) a ρ h e = subst Leaves e.2 (lent_own Leaves _ σ _ _ (copy_leaves t e.0 (first (row_chosen t) σ.hot)))
    ledger_stays (call.Settle t) a ρ h e = subst Leaves e (lent_own Leaves _ σ _ _ (settle_leaves t (first (row_copied t) σ.hot)))
    ledger_stays (call.GiveUp t) a ρ h e =
        subst Leaves e (lent_own Leaves _ σ _ _
        (cond_both (any (row_bears t) σ.hot) _ _ Leaves (λ _. (refl, refl)) (λ _. (refl, refl))))
    ledger_stays call.Sweep a ρ h e = subst Leaves e (lent_own Leaves _ σ _ _ (sweep_leaves (first (due σ) σ.memo)))
    ledger_stays call.Collect a ρ h e = subst Leaves e (lent_own Leaves _ σ _ _ (refl, refl))

  pub history_stays : (T : History R) (c : Call K R) (a : Told R) → by_seller c ≡ false → feed number T c a ≡ T
  history_stays T (call.Begin s m) a h = absurd (true≢false h)
  history_stays T (call.Read s k) a h = absurd (true≢false h)
  history_stays T (call.Put s k r) a h = absurd (true≢false h)
  history_stays T (call.Drop s k) a h = absurd (true≢false h)
  history_stays T (call.Commit s) a h = absurd (true≢false h)
  history_stays T (call.Abandon s) a h = absurd (true≢false h)
  history_stays T (call.Choose k) a h = refl
  history_stays T (call.Copy t) a h = refl
  history_stays T (call.Settle t) a h = refl
  history_stays T (call.GiveUp t) a h = refl
  history_stays T call.Sweep a h = refl
  history_stays T call.Collect a h = refl
