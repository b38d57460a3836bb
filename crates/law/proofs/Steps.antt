-- Every call of a run keeps the relation between the store and the history.
use Rattle.std.proofs.Common.{◌≡◌, ℕ, ◌+◌, ◌<◌, Bool, true, not, ◌&&◌, ltb, leb, List, [], ◌∷◌, ◌++◌, Some, None, Option, refl, subst, arith}
use Rattle.std.proofs.lemmas.Bool.{cond_both, eq-eqb, ne_eqb, ltb-false, leb-false, not-true, not-false}
use Rattle.slots.specs.Lists.{any, first}
use Rattle.slots.proofs.Folds.{first_some}
use Rattle.rules.specs.declared.tables.HotRow.{HotRow}
use Rattle.rules.specs.declared.tables.Notice.{Notice}
use Rattle.rules.specs.declared.sheet.Mode.{Mode}
use Rattle.rules.specs.declared.sheet.Reading.{Reading}
use Rattle.rules.specs.declared.answers.Side.{Side}
use Rattle.rules.specs.declared.answers.Refusal.TheVariants as refusal
use Rattle.rules.specs.declared.answers.Answer.TheVariants as answer
use Rattle.rules.specs.declared.answers.Call.{Call}
use Rattle.rules.specs.declared.answers.Call.TheVariants as call
use Rattle.rules.specs.Stores.{Store, Lengths, same_lengths, session_at, opened_at, with_session, hot_full, memo_full, ledger_full}
use Rattle.rules.specs.Outcomes.{Told, Outcome, served, refused, untold, if_open, if_lent, for_session}
use Rattle.rules.specs.Looking.{conflict, looked}
use Rattle.rules.specs.Selling.{begin_rule, read_rule, put_rule, drop_rule, commit_rule, abandon_rule, new_line, hot_own, wants_notice, has_marks, stale}
use Rattle.rules.specs.Moving.{choose_rule, copy_rule, settle_rule, give_up_rule, sweep_rule, collect_rule, choose_row, copy_row, settle_row, sweep_notice, movable, row_chosen, row_copied, row_bears, unmoved, due, HasMore}
use Rattle.versions.specs.History.{History, feed}
use Rattle.cells.proofs.Cells.{Whole}
use Rattle.cells.proofs.Collecting.{whole_collect}
use Rattle.cells.proofs.GivingUp.{whole_give_up}
use Rattle.cells.proofs.Choosing.{whole_choose}
use Rattle.cells.proofs.Copying.{whole_copy}
use Rattle.cells.proofs.Settling.{whole_settle}
use Rattle.cells.proofs.Sweeping.{whole_sweep}
use Rattle.cells.proofs.Beginning.{whole_ledger, whole_finds, whole_begin}
use Rattle.cells.proofs.Committing.{whole_commit}
use Rattle.cells.proofs.Abandoning.{whole_abandon, whole_unmarked}
use Rattle.cells.proofs.Putting.{whole_replace_own, whole_drop_own, whole_put, whole_drop}
use Rattle.law.specs.Runs.{Event, Step, Runs}
use Rattle.law.proofs.Past.{feeds}

pub same_lengths_self : (l : Lengths) → same_lengths l l ≡ true
same_lengths_self l = rw (eq-eqb l.hots l.hots refl, eq-eqb l.memos l.memos refl, eq-eqb l.lines l.lines refl) refl

module _ {K R : Type 0} where
  -- in a run the lent lengths are the opening's
  pub lent_own : (P : Outcome K R → Type 0) (side : Side) (σ left : Store K R) (o : Outcome K R)
      → P o → P (if_lent side σ.lengths σ left o)
  lent_own P side σ left o p = rw (same_lengths_self σ.lengths) p

  -- a rule for open sessions
  pub session_ok : (P : Outcome K R → Type 0) (σ left : Store K R) (s : ℕ) (f : Mode → ℕ → Outcome K R)
      → P (refused refusal.NoSession left) → P (refused refusal.NotOpen left)
      → ((r : Reading) → s < 64 → (session_at σ.sessions s).reading ≡ Some r → P (f r.mode r.time))
      → P (for_session σ left s f)
  session_ok P σ left s f none shut g =
      cond_both (ltb 63 s) _ _ P (λ _. none)
      (λ h. go (session_at σ.sessions s).reading refl (let l = ltb-false 63 s h in omega arith))
    where
      go : (o : Option Reading) → (session_at σ.sessions s).reading ≡ o → s < 64 → P (if_open o f (refused refusal.NotOpen left))
      go None e l = shut
      go (Some r) e l = g r l e

module _ {K R : Type 0} (number : K → ℕ) where
  module _ (σ : Store K R) (T : History R) (w : Whole number σ T) where
    abbrev Keeps : Call K R → Outcome K R → Type 0
    Keeps c z = Whole number z.after (feed number T c z.answer)

    quiet : Whole number (untold σ) T
    quiet = whole_finds number σ T 0 w

    begin_ok : (s : ℕ) (m : Mode) → Keeps (call.Begin s m) (begin_rule σ.lengths σ s m)
    begin_ok s m = lent_own (Keeps (call.Begin s m)) _ σ σ _
        (cond_both (ltb 63 s) _ _ (Keeps (call.Begin s m)) (λ _. w)
        (λ h. go (session_at σ.sessions s).reading refl (let l = ltb-false 63 s h in omega arith)))
      where
        go : (o : Option Reading) → (session_at σ.sessions s).reading ≡ o → s < 64
            → Keeps (call.Begin s m) (if_open o (λ _ _. refused refusal.AlreadyOpen σ) (served answer.Done (with_session σ s (opened_at m σ.clock))))
        go None e l = whole_begin number σ T w s m l e
        go (Some r) e l = w

    read_ok : (s : ℕ) (k : K) → Keeps (call.Read s k) (read_rule number σ.lengths σ s k)
    read_ok s k = lent_own (Keeps (call.Read s k)) _ σ _ _ (session_ok (Keeps (call.Read s k)) σ _ s _ quiet quiet (λ r l e.
        cond_both (new_line number σ r.mode s (number k) && ledger_full σ) _ _ (Keeps (call.Read s k)) (λ _. quiet)
        (λ _. whole_ledger number _ T _ (whole_finds number σ T _ w))))

    put_ok : (s : ℕ) (k : K) (row : R) → Keeps (call.Put s k row) (put_rule number σ.lengths σ s k row)
    put_ok s k row = lent_own (Keeps (call.Put s k row)) _ σ _ _ (session_ok (Keeps (call.Put s k row)) σ _ s _ quiet quiet (λ r l e.
        cond_both (conflict number σ s r.time (number k)) _ _ (Keeps (call.Put s k row)) (λ _. quiet) (λ free.
        cond_both (any (hot_own number s (number k)) σ.hot) _ _ (Keeps (call.Put s k row))
        (λ own. whole_replace_own number σ T w s r e k free 0 own row)
        (λ no_own. cond_both (hot_full σ) _ _ (Keeps (call.Put s k row)) (λ _. quiet) (λ _.
        cond_both (wants_notice number σ (number k) (looked number σ s r.time (number k)).seen && memo_full σ) _ _ (Keeps (call.Put s k row))
        (λ _. quiet) (λ _. whole_put number σ T w s r e k free _ no_own row))))))

    drop_ok : (s : ℕ) (k : K) → Keeps (call.Drop s k) (drop_rule number σ.lengths σ s k)
    drop_ok s k = lent_own (Keeps (call.Drop s k)) _ σ _ _ (session_ok (Keeps (call.Drop s k)) σ _ s _ quiet quiet (λ r l e.
        cond_both (conflict number σ s r.time (number k)) _ _ (Keeps (call.Drop s k)) (λ _. quiet) (λ free.
        cond_both (new_line number σ r.mode s (number k) && ledger_full σ) _ _ (Keeps (call.Drop s k)) (λ _. quiet) (λ _.
        cond_both (any (hot_own number s (number k)) σ.hot) _ _ (Keeps (call.Drop s k))
        (λ own. whole_ledger number _ _ _ (whole_drop_own number σ T w s r e k free 0 own))
        (λ no_own. cond_both (wants_notice number σ (number k) (looked number σ s r.time (number k)).seen && memo_full σ) _ _
        (Keeps (call.Drop s k)) (λ _. quiet)
        (λ _. whole_ledger number _ _ _ (whole_drop number σ T w s r e k free _ no_own)))))))

    commit_ok : (s : ℕ) → Keeps (call.Commit s) (commit_rule number σ.lengths σ s)
    commit_ok s = lent_own (Keeps (call.Commit s)) _ σ _ _ (session_ok (Keeps (call.Commit s)) σ _ s _ w w (λ r l e.
        cond_both (not (has_marks σ s)) _ _ (Keeps (call.Commit s))
        (λ un. whole_unmarked number σ T w s l (not-true (has_marks σ s) un)) (λ _.
        cond_both (stale number σ r.mode s r.time) _ _ (Keeps (call.Commit s)) (λ _. whole_abandon number σ T w s l) (λ _.
        cond_both (leb 4000000000 σ.clock) _ _ (Keeps (call.Commit s)) (λ _. w)
        (λ _. rw (ne_eqb (σ.clock + 1) 0 (λ z. omega arith)) (whole_commit number σ T w s l))))))

    abandon_ok : (s : ℕ) → Keeps (call.Abandon s) (abandon_rule σ.lengths σ s)
    abandon_ok s = lent_own (Keeps (call.Abandon s)) _ σ _ _ (session_ok (Keeps (call.Abandon s)) σ _ s _ w w (λ r l e. whole_abandon number σ T w s l))

    choose_ok : (k : K) → Keeps (call.Choose k) (choose_rule number σ.lengths σ k)
    choose_ok k = lent_own (Keeps (call.Choose k)) _ σ _ _ (go (first (movable number (number k)) σ.hot) refl)
      where
        go : (o : Option (HotRow K R)) → first (movable number (number k)) σ.hot ≡ o → Keeps (call.Choose k) (choose_row number σ k o)
        go None e = w
        go (Some h) e = cond_both (not (unmoved h.mark)) _ _ (Keeps (call.Choose k)) (λ _. w) (λ un.
            cond_both (leb 4000000000 σ.last_tag) _ _ (Keeps (call.Choose k)) (λ _. w) (λ room.
            cond_both (memo_full σ) _ _ (Keeps (call.Choose k)) (λ _. w)
            (λ _. whole_choose number σ T w k h e (not-false (unmoved h.mark) un) (leb-false 4000000000 σ.last_tag room))))

    copy_ok : (tag : ℕ) (new : ℕ → Bool)
        → ((h : HotRow K R) → first (row_chosen tag) σ.hot ≡ Some h → HasMore (number h.key) σ.admits new)
        → Keeps (call.Copy tag) (copy_rule number σ.lengths σ tag new)
    copy_ok tag new grown = lent_own (Keeps (call.Copy tag)) _ σ _ _ (go (first (row_chosen tag) σ.hot) refl)
      where
        go : (o : Option (HotRow K R)) → first (row_chosen tag) σ.hot ≡ o → Keeps (call.Copy tag) (copy_row number σ tag new o)
        go None e = w
        go (Some h) e = let g = grown h e in whole_copy number σ T w new tag h e g.0 g.1

    settle_ok : (tag : ℕ) → Keeps (call.Settle tag) (settle_rule number σ.lengths σ tag)
    settle_ok tag = lent_own (Keeps (call.Settle tag)) _ σ _ _ (go (first (row_copied tag) σ.hot) refl)
      where
        go : (o : Option (HotRow K R)) → first (row_copied tag) σ.hot ≡ o → Keeps (call.Settle tag) (settle_row number σ tag o)
        go None e = w
        go (Some h) e = whole_settle number σ T w tag h e

    give_up_ok : (tag : ℕ) → Keeps (call.GiveUp tag) (give_up_rule σ.lengths σ tag)
    give_up_ok tag = lent_own (Keeps (call.GiveUp tag)) _ σ _ _
        (cond_both (any (row_bears tag) σ.hot) _ _ (Keeps (call.GiveUp tag))
        (λ h. let x = first_some _ σ.hot h in whole_give_up number σ T tag x.0 w x.1) (λ _. w))

    sweep_ok : Keeps call.Sweep (sweep_rule number σ.lengths σ)
    sweep_ok = lent_own (Keeps call.Sweep) _ σ _ _ (go (first (due σ) σ.memo) refl)
      where
        go : (o : Option (Notice K)) → first (due σ) σ.memo ≡ o → Keeps call.Sweep (sweep_notice number σ o)
        go None e = w
        go (Some n) e = whole_sweep number σ T w n e

    collect_ok : Keeps call.Collect (collect_rule σ.lengths σ)
    collect_ok = lent_own (Keeps call.Collect) _ σ _ _ (whole_collect number σ T w)

  pub step_ok : (σ τ : Store K R) (T : History R) (c : Call K R) (a : Told R) → Whole number σ T → Step number σ c a τ → Whole number τ (feed number T c a)
  step_ok σ τ T (call.Begin s m) a w e = subst (Keeps σ T w (call.Begin s m)) e (begin_ok σ T w s m)
  step_ok σ τ T (call.Read s k) a w e = subst (Keeps σ T w (call.Read s k)) e (read_ok σ T w s k)
  step_ok σ τ T (call.Put s k r) a w e = subst (Keeps σ T w (call.Put s k r)) e (put_ok σ T w s k r)
  step_ok σ τ T (call.Drop s k) a w e = subst (Keeps σ T w (call.Drop s k)) e (drop_ok σ T w s k)
  step_ok σ τ T (call.Commit s) a w e = subst (Keeps σ T w (call.Commit s)) e (commit_ok σ T w s)
  step_ok σ τ T (call.Abandon s) a w e = subst (Keeps σ T w (call.Abandon s)) e (abandon_ok σ T w s)
  step_ok σ τ T (call.Choose k) a w e = subst (Keeps σ T w (call.Choose k)) e (choose_ok σ T w k)
  step_ok σ τ T (call.Copy t) a w e = subst (Keeps σ T w (call.Copy t)) e.2 (copy_ok σ T w t e.0 e.1)
  step_ok σ τ T (call.Settle t) a w e = subst (Keeps σ T w (call.Settle t)) e (settle_ok σ T w t)
  step_ok σ τ T (call.GiveUp t) a w e = subst (Keeps σ T w (call.GiveUp t)) e (give_up_ok σ T w t)
  step_ok σ τ T call.Sweep a w e = subst (Keeps σ T w call.Sweep) e (sweep_ok σ T w)
  step_ok σ τ T call.Collect a w e = subst (Keeps σ T w call.Collect) e (collect_ok σ T w)

  -- and so does a whole run
  pub runs_ok : (es : List (Event K R)) (σ τ : Store K R) (T : History R) → Whole number σ T → Runs number σ es τ → Whole number τ (feeds number T es)
  unfolding Runs feeds
  runs_ok [] σ τ T w r = subst (λ z. Whole number z T) r w
  runs_ok (ev ∷ es) σ τ T w r =
      runs_ok es r.0 τ (feed number T ev.call ev.answer) (step_ok σ r.0 T ev.call ev.answer w r.1) r.2

  -- a run of two parts
  pub runs_cut : (es fs : List (Event K R)) (σ τ : Store K R) → Runs number σ (es ++ fs) τ
      → (ρ : Store K R) × Runs number σ es ρ × Runs number ρ fs τ
  unfolding Runs
  runs_cut [] fs σ τ r = (σ, refl, r)
  runs_cut (ev ∷ es) fs σ τ r = let q = runs_cut es fs r.0 τ r.2 in (q.0, (r.0, r.1, q.1), q.2)

  pub feeds_cut : (es fs : List (Event K R)) (T : History R) → feeds number T (es ++ fs) ≡ feeds number (feeds number T es) fs
  unfolding feeds
  feeds_cut [] fs T = refl
  feeds_cut (ev ∷ es) fs T = feeds_cut es fs (feed number T ev.call ev.answer)
