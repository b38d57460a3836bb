-- A session's ledger lines stay until the session is closed.
use Rattle.std.proofs.Common.{◌≡◌, ℕ, Bool, true, false, cond, not, ◌&&◌, eqb, ltb, leb, List, [], ◌∷◌, ◌++◌, Some, None, Option, sym, refl, ap, ◌∙◌, subst, inl, inr}
use Rattle.std.proofs.lemmas.Bool.{cases_Bool, cond_both, eqb-true, eq-eqb, ne_eqb, and_parts, or_parts, or_left}
use Rattle.slots.specs.Lists.{any, kept, one}
use Rattle.slots.proofs.Folds.{any_append}
use Rattle.rules.specs.declared.tables.Line.{Line}
use Rattle.rules.specs.declared.sheet.Mode.{Mode}
use Rattle.rules.specs.declared.sheet.Reading.{Reading}
use Rattle.rules.specs.declared.answers.Refusal.TheVariants as refusal
use Rattle.rules.specs.declared.answers.Answer.TheVariants as answer
use Rattle.rules.specs.declared.answers.Call.{Call}
use Rattle.rules.specs.declared.answers.Call.TheVariants as call
use Rattle.rules.specs.Stores.{Store, session_at, opened_at, with_session, with_finds, hot_full, memo_full, ledger_full}
use Rattle.rules.specs.Outcomes.{Told, Outcome, served, refused, if_open}
use Rattle.rules.specs.Looking.{Seen, hot_one, cold_one, nothing, conflict, looked}
use Rattle.rules.specs.Selling.{begin_rule, read_rule, put_rule, drop_rule, commit_rule, abandon_rule, is_checked, line_for, line_stays, new_line, hot_own, wants_notice, end_seen, has_marks, stale}
use Rattle.law.specs.Runs.{Event, Step, Runs, by_seller}
use Rattle.law.specs.Episodes.{closes_by}
use Rattle.law.proofs.Steps.{lent_own, session_ok}
use Rattle.law.proofs.MovesAside.{ledger_stays}

-- what passes stays where a filter keeps all that passes
any_kept : {X : Type 0} (p q : X → Bool) (xs : List X) → ((x : X) → p x ≡ true → q x ≡ true) → any p xs ≡ true → any p (kept q xs) ≡ true
unfolding any kept
any_kept p q [] f h = h
any_kept p q (x ∷ xs) f h = elim (cases_Bool (p x)) [
  | inl y ↦ rw (f x y, y)
  | inr y ↦ let ih = any_kept p q xs f (rw y at h) in elim (cases_Bool (q x)) [ inl z ↦ rw (z, y) ih | inr z ↦ rw z ih ]
]

module _ {K R : Type 0} (number : K → ℕ) where
  -- ending a version leaves the ledger
  pub end_ledger : (σ : Store K R) (s t : ℕ) (key : K) (v : Seen K R) → (end_seen number σ s t key v).ledger ≡ σ.ledger
  end_ledger σ s t key (hot_one h) = refl
  end_ledger σ s t key (cold_one c) = refl
  end_ledger σ s t key nothing = refl

  module _ (σ : Store K R) (s k : ℕ) (h : any (line_for number s k) σ.ledger ≡ true) where
    abbrev Has : List (Line K) → Type 0
    Has lines = any (line_for number s k) lines ≡ true

    -- a call that does not close the session leaves the line
    abbrev Stays : Call K R → Outcome K R → Type 0
    Stays c z = closes_by s c z.answer ≡ false → Has z.after.ledger

    noted_has : (lines : List (Line K)) → lines ≡ σ.ledger → (m : Mode) (u : ℕ) (j : K)
        → Has (cond (is_checked m && not (any (line_for number u (number j)) lines)) (lines ++ one (record { session = u; key = j })) lines)
    noted_has lines e m u j =
        cond_both (is_checked m && not (any (line_for number u (number j)) lines)) _ _ Has
        (λ _. any_append (line_for number s k) lines _ ∙ or_left _ _ (ap (any (line_for number s k)) e ∙ h))
        (λ _. ap (any (line_for number s k)) e ∙ h)

    closed_has : (u : ℕ) → (u ≡ s → ⊥) → Has (kept (line_stays u) σ.ledger)
    closed_has u ne = any_kept (line_for number s k) (line_stays u) σ.ledger
        (λ l p. let e = eqb-true l.session s (and_parts (eqb l.session s) (eqb (number l.key) k) p).0 in
        rw (e, ne_eqb s u (λ z. ne (sym z))) refl) h

    not_closed : (u : ℕ) → (eqb u s && true) ≡ false → u ≡ s → ⊥
    not_closed u e q = let f = eq-eqb u s q in cc (rw f at e)

    begin_line : (u : ℕ) (m : Mode) → Stays (call.Begin u m) (begin_rule σ.lengths σ u m)
    begin_line u m = lent_own (Stays (call.Begin u m)) _ σ σ _
        (cond_both (ltb 63 u) _ _ (Stays (call.Begin u m)) (λ _ _. h) (λ _. go (session_at σ.sessions u).reading))
      where
        go : (o : Option Reading)
            → Stays (call.Begin u m) (if_open o (λ _ _. refused refusal.AlreadyOpen σ) (served answer.Done (with_session σ u (opened_at m σ.clock))))
        go None e = h
        go (Some r) e = h

    read_line : (u : ℕ) (j : K) → Stays (call.Read u j) (read_rule number σ.lengths σ u j)
    read_line u j = lent_own (Stays (call.Read u j)) _ σ _ _ (session_ok (Stays (call.Read u j)) σ _ u _ (λ _. h) (λ _. h) (λ r l e.
        cond_both (new_line number σ r.mode u (number j) && ledger_full σ) _ _ (Stays (call.Read u j)) (λ _ _. h)
        (λ _ _. noted_has σ.ledger refl r.mode u j)))

    put_line : (u : ℕ) (j : K) (q : R) → Stays (call.Put u j q) (put_rule number σ.lengths σ u j q)
    put_line u j q = lent_own (Stays (call.Put u j q)) _ σ _ _ (session_ok (Stays (call.Put u j q)) σ _ u _ (λ _. h) (λ _. h) (λ r l e.
        cond_both (conflict number σ u r.time (number j)) _ _ (Stays (call.Put u j q)) (λ _ _. h) (λ _.
        cond_both (any (hot_own number u (number j)) σ.hot) _ _ (Stays (call.Put u j q)) (λ _ _. h) (λ _.
        cond_both (hot_full σ) _ _ (Stays (call.Put u j q)) (λ _ _. h) (λ _.
        cond_both (wants_notice number σ (number j) (looked number σ u r.time (number j)).seen && memo_full σ) _ _ (Stays (call.Put u j q))
        (λ _ _. h)
        (λ _ _. ap (any (line_for number s k)) (end_ledger (with_finds σ _) u r.time j (looked number σ u r.time (number j)).seen) ∙ h))))))

    drop_line : (u : ℕ) (j : K) → Stays (call.Drop u j) (drop_rule number σ.lengths σ u j)
    drop_line u j = lent_own (Stays (call.Drop u j)) _ σ _ _ (session_ok (Stays (call.Drop u j)) σ _ u _ (λ _. h) (λ _. h) (λ r l e.
        cond_both (conflict number σ u r.time (number j)) _ _ (Stays (call.Drop u j)) (λ _ _. h) (λ _.
        cond_both (new_line number σ r.mode u (number j) && ledger_full σ) _ _ (Stays (call.Drop u j)) (λ _ _. h) (λ _.
        cond_both (any (hot_own number u (number j)) σ.hot) _ _ (Stays (call.Drop u j)) (λ _ _. noted_has σ.ledger refl r.mode u j) (λ _.
        cond_both (wants_notice number σ (number j) (looked number σ u r.time (number j)).seen && memo_full σ) _ _ (Stays (call.Drop u j))
        (λ _ _. h)
        (λ _ _. noted_has _ (end_ledger (with_finds σ _) u r.time j (looked number σ u r.time (number j)).seen) r.mode u j))))))

    commit_line : (u : ℕ) → Stays (call.Commit u) (commit_rule number σ.lengths σ u)
    commit_line u = lent_own (Stays (call.Commit u)) _ σ _ _ (session_ok (Stays (call.Commit u)) σ _ u _ (λ _. h) (λ _. h) (λ r l e.
        cond_both (not (has_marks σ u)) _ _ (Stays (call.Commit u)) (λ _ c. closed_has u (not_closed u c)) (λ _.
        cond_both (stale number σ r.mode u r.time) _ _ (Stays (call.Commit u)) (λ _ c. closed_has u (not_closed u c)) (λ _.
        cond_both (leb 4000000000 σ.clock) _ _ (Stays (call.Commit u)) (λ _ _. h) (λ _ c. closed_has u (not_closed u c))))))

    abandon_line : (u : ℕ) → Stays (call.Abandon u) (abandon_rule σ.lengths σ u)
    abandon_line u = lent_own (Stays (call.Abandon u)) _ σ _ _
        (session_ok (Stays (call.Abandon u)) σ _ u _ (λ _. h) (λ _. h) (λ r l e c. closed_has u (not_closed u c)))

  -- calls of movers leave the ledger
  move_line : (σ ρ : Store K R) (s k : ℕ) (c : Call K R) (a : Told R) → by_seller c ≡ false
      → any (line_for number s k) σ.ledger ≡ true → Step number σ c a ρ → any (line_for number s k) ρ.ledger ≡ true
  move_line σ ρ s k c a moves h e = ap (any (line_for number s k)) (ledger_stays number σ c a ρ moves e).1 ∙ h

  step_line : (σ ρ : Store K R) (s k : ℕ) (c : Call K R) (a : Told R) → any (line_for number s k) σ.ledger ≡ true
      → Step number σ c a ρ → closes_by s c a ≡ false → any (line_for number s k) ρ.ledger ≡ true
  step_line σ ρ s k (call.Begin u m) a h e = subst (Stays σ s k h (call.Begin u m)) e (begin_line σ s k h u m)
  step_line σ ρ s k (call.Read u j) a h e = subst (Stays σ s k h (call.Read u j)) e (read_line σ s k h u j)
  step_line σ ρ s k (call.Put u j q) a h e = subst (Stays σ s k h (call.Put u j q)) e (put_line σ s k h u j q)
  step_line σ ρ s k (call.Drop u j) a h e = subst (Stays σ s k h (call.Drop u j)) e (drop_line σ s k h u j)
  step_line σ ρ s k (call.Commit u) a h e = subst (Stays σ s k h (call.Commit u)) e (commit_line σ s k h u)
  step_line σ ρ s k (call.Abandon u) a h e = subst (Stays σ s k h (call.Abandon u)) e (abandon_line σ s k h u)
  step_line σ ρ s k (call.Choose j) a h e = λ _. move_line σ ρ s k (call.Choose j) a refl h e
  step_line σ ρ s k (call.Copy t) a h e = λ _. move_line σ ρ s k (call.Copy t) a refl h e
  step_line σ ρ s k (call.Settle t) a h e = λ _. move_line σ ρ s k (call.Settle t) a refl h e
  step_line σ ρ s k (call.GiveUp t) a h e = λ _. move_line σ ρ s k (call.GiveUp t) a refl h e
  step_line σ ρ s k call.Sweep a h e = λ _. move_line σ ρ s k call.Sweep a refl h e
  step_line σ ρ s k call.Collect a h e = λ _. move_line σ ρ s k call.Collect a refl h e

  -- over a whole run
  pub runs_line : (es : List (Event K R)) (σ τ : Store K R) (s k : ℕ) → any (line_for number s k) σ.ledger ≡ true
      → Runs number σ es τ → any (λ ev. closes_by s ev.call ev.answer) es ≡ false → any (line_for number s k) τ.ledger ≡ true
  unfolding Runs any
  runs_line [] σ τ s k h r e = subst (λ z. any (line_for number s k) z.ledger ≡ true) r h
  runs_line (ev ∷ es) σ τ s k h r e =
      let p = or_parts (closes_by s ev.call ev.answer) (any (λ x. closes_by s x.call x.answer) es) e in
      runs_line es r.0 τ s k (step_line σ r.0 s k ev.call ev.answer h r.1 p.0) r.2 p.1
