-- What the answers of a checked session tell: a read or drop, of the history at its read time and of its ledger lines; a commit,
-- that no key of its lines was written since.
use Rattle.std.proofs.Common.{◌≡◌, ℕ, ◌+◌, Bool, true, false, cond, not, ◌&&◌, eqb, leb, ◌⊎◌, List, ◌++◌, is_some, Some, Option, sym, refl, ap, ◌∙◌, subst, inl, inr, arith, Ok, Err}
use Rattle.std.proofs.lemmas.Bool.{cond_both, eqb-true, eq-eqb, and_parts, or_right}
use Rattle.slots.specs.Lists.{any, one}
use Rattle.slots.proofs.Folds.{any_append, none_all, first_some, spot}
use Rattle.rules.specs.declared.tables.Line.{Line}
use Rattle.rules.specs.declared.sheet.Mode.{Mode}
use Rattle.rules.specs.declared.sheet.Mode.TheVariants.{Checked}
use Rattle.rules.specs.declared.sheet.Reading.{Reading}
use Rattle.rules.specs.declared.answers.Refusal.{Refusal}
use Rattle.rules.specs.declared.answers.Answer.{Answer}
use Rattle.rules.specs.declared.answers.Answer.TheVariants as answer
use Rattle.rules.specs.Stores.{Store, session_at, with_finds, memo_full, ledger_full}
use Rattle.rules.specs.Outcomes.{Told, Outcome}
use Rattle.rules.specs.Looking.{conflict, above, looked, row_of}
use Rattle.rules.specs.Selling.{read_rule, drop_rule, commit_rule, is_checked, line_for, new_line, hot_own, wants_notice, has_marks, stale_line, stale}
use Rattle.versions.specs.Writes.{over}
use Rattle.versions.specs.History.{Turn, History, shown, turn_writes, turn_read}
use Rattle.versions.proofs.Versions.{wrote_above}
use Rattle.cells.proofs.Cells.{Whole, Agree}
use Rattle.cells.proofs.Sessions.{reader, read_time}
use Rattle.cells.proofs.Looking.{lookup_is}
use Rattle.cells.proofs.Found.{found_all}
use Rattle.cells.proofs.Writes.{may_write}
use Rattle.cells.proofs.OwnRows.{own_put}
use Rattle.cells.proofs.Traces.{above_is}
use Rattle.law.proofs.Steps.{lent_own, session_ok}
use Rattle.law.proofs.Lines.{end_ledger}

no_answer : {R A : Type 0} (e : Refusal) (v : Answer R) → ◌≡◌ {A = Told R} (Err e) (Ok v) → A
no_answer e v p = absurd cc

same_row : {R : Type 0} (a c : Option R) → ◌≡◌ {A = Told R} (Ok (answer.Row a)) (Ok (answer.Row c)) → c ≡ a
same_row a c p = let q : a ≡ c = cc in sym q

same_was : {R : Type 0} (a c : Bool) → ◌≡◌ {A = Told R} (Ok (answer.Was a)) (Ok (answer.Was c)) → c ≡ a
same_was a c p = let q : a ≡ c = cc in sym q

same_at : {R : Type 0} (a c : ℕ) → ◌≡◌ {A = Told R} (Ok (answer.At a)) (Ok (answer.At c)) → c ≡ a
same_at a c p = let q : a ≡ c = cc in sym q

there : (x y : Bool) → x ≡ true → (x && not y) ≡ false → y ≡ true
there x y a b = grind arith

unstale : (x y : Bool) → x ≡ true → (x && y) ≡ false → y ≡ false
unstale x y a b = grind arith

module _ {K : Type 0} (number : K → ℕ) where
  -- the line that a checked read or drop leaves
  lined : (lines : List (Line K)) (m : Mode) (s : ℕ) (key : K) → is_checked m ≡ true
      → any (line_for number s (number key))
      (cond (is_checked m && not (any (line_for number s (number key)) lines)) (lines ++ one (record { session = s; key = key })) lines)
      ≡ true
  unfolding any
  lined lines m s key c =
      cond_both (is_checked m && not (any (line_for number s (number key)) lines)) _ _
      (λ (z : List (Line K)). any (line_for number s (number key)) z ≡ true)
      (λ _. any_append (line_for number s (number key)) lines _ ∙ or_right _ _ own)
      (λ f. there (is_checked m) (any (line_for number s (number key)) lines) c f)
    where
      own : any (line_for number s (number key)) (one (record { session = s; key = key })) ≡ true
      own = rw (eq-eqb s s refl, eq-eqb (number key) (number key) refl) refl

module _ {K R : Type 0} (number : K → ℕ) where
  module _ (σ : Store K R) (T : History R) (w : Whole number σ T) (s : ℕ) (y : Turn R) (has : T.turn s ≡ Some y)
      (checked : y.mode ≡ Checked) where
    -- what the session sees of a key
    abbrev sight : ℕ → Option R
    sight k = over (turn_writes (T.turn s) k) (shown T.commits (turn_read (T.turn s)) k)

    its_mode : (r : Reading) → (session_at σ.sessions s).reading ≡ Some r → is_checked r.mode ≡ true
    its_mode r e =
        let a : Agree number (Some r) (Some y) =
        subst (λ o. Agree number (Some r) o) has (subst (λ o. Agree number o (T.turn s)) e (w.agree s)) in
        ap is_checked (sym a.0 ∙ checked)

    sees : (r : Reading) (k : ℕ) → (session_at σ.sessions s).reading ≡ Some r → row_of (looked number σ s r.time k).seen ≡ sight k
    sees r k e =
        lookup_is number σ T w s r k e
        ∙ ap (λ t. over (turn_writes (T.turn s) k) (shown T.commits t k)) (sym (read_time number σ T w s r e))

    abbrev pub ReadTells : K → Outcome K R → Type 0
    ReadTells key z = (row : Option R) → z.answer ≡ Ok (answer.Row row)
        → (row ≡ sight (number key)) × (any (line_for number s (number key)) z.after.ledger ≡ true)

    pub read_tells : (key : K) → ReadTells key (read_rule number σ.lengths σ s key)
    read_tells key = lent_own (ReadTells key) _ σ _ _
        (session_ok (ReadTells key) σ _ s _ (λ row p. no_answer _ _ p) (λ row p. no_answer _ _ p) (λ r l e.
        cond_both (new_line number σ r.mode s (number key) && ledger_full σ) _ _ (ReadTells key) (λ _ row p. no_answer _ _ p)
        (λ _ row p. (same_row _ row p ∙ sees r (number key) e, lined number σ.ledger r.mode s key (its_mode r e)))))

    abbrev pub DropTells : K → Outcome K R → Type 0
    DropTells key z = (was : Bool) → z.answer ≡ Ok (answer.Was was)
        → (was ≡ is_some (sight (number key))) × (any (line_for number s (number key)) z.after.ledger ≡ true)

    own_seen : (r : Reading) (key : K) → (session_at σ.sessions s).reading ≡ Some r → conflict number σ s r.time (number key) ≡ false
        → any (hot_own number s (number key)) σ.hot ≡ true → true ≡ is_some (sight (number key))
    own_seen r key e free own =
        let q = own_put number (may_write number σ T w s r e key free) own in
        ap (λ z. is_some (over z (shown T.commits (turn_read (T.turn s)) (number key)))) (sym q.1)

    pub drop_tells : (key : K) → DropTells key (drop_rule number σ.lengths σ s key)
    drop_tells key = lent_own (DropTells key) _ σ _ _
        (session_ok (DropTells key) σ _ s _ (λ was p. no_answer _ _ p) (λ was p. no_answer _ _ p) (λ r l e.
        cond_both (conflict number σ s r.time (number key)) _ _ (DropTells key) (λ _ was p. no_answer _ _ p) (λ free.
        cond_both (new_line number σ r.mode s (number key) && ledger_full σ) _ _ (DropTells key) (λ _ was p. no_answer _ _ p) (λ _.
        cond_both (any (hot_own number s (number key)) σ.hot) _ _ (DropTells key)
        (λ own was p. (same_was true was p ∙ own_seen r key e free own, lined number σ.ledger r.mode s key (its_mode r e)))
        (λ _. cond_both (wants_notice number σ (number key) (looked number σ s r.time (number key)).seen && memo_full σ) _ _ (DropTells key)
        (λ _ was p. no_answer _ _ p)
        (λ _ was p. (
          same_was _ was p ∙ ap is_some (sees r (number key) e),
          subst (λ (z : List (Line K)). any (line_for number s (number key))
              (cond (is_checked r.mode && not (any (line_for number s (number key)) z)) (z ++ one (record { session = s; key = key })) z) ≡ true)
              (sym (end_ledger number (with_finds σ (looked number σ s r.time (number key)).finds) s r.time key
              (looked number σ s r.time (number key)).seen))
              (lined number σ.ledger r.mode s key (its_mode r e)),
        )))))))

    -- a commit that answers a stamp found no key of the session's lines written since its read time
    abbrev CommitTells : Outcome K R → Type 0
    CommitTells z = (n : ℕ) → z.answer ≡ Ok (answer.At n)
        → (n ≡ 0) ⊎ ((n ≡ T.clock + 1)
        × ((k : ℕ) → any (line_for number s k) σ.ledger ≡ true → wrote_above T.commits (turn_read (T.turn s)) k ≡ false))

    fresh_line : (r : Reading) → (session_at σ.sessions s).reading ≡ Some r → any (stale_line number σ s r.time) σ.ledger ≡ false
        → (k : ℕ) → any (line_for number s k) σ.ledger ≡ true → wrote_above T.commits (turn_read (T.turn s)) k ≡ false
    fresh_line r e none k h =
        let o = reader number σ T w s r e in
        let l = first_some (line_for number s k) σ.ledger h in
        let p = and_parts (eqb l.0.session s) (eqb (number l.0.key) k) (spot (line_for number s k) σ.ledger l.0 l.1).passes in
        let f : stale_line number σ s r.time l.0 ≡ false =
        found_all (λ x. stale_line number σ s r.time x ≡ false) (line_for number s k) σ.ledger l.0 (none_all _ σ.ledger none) l.1 in
        let g : above number σ r.time (number l.0.key) ≡ false = rw p.0 at f in
        let q : above number σ (turn_read (T.turn s)) k ≡ false =
        ap (λ t. above number σ t k) (read_time number σ T w s r e) ∙ (ap (above number σ r.time) (sym (eqb-true _ _ p.1)) ∙ g) in
        sym (above_is number σ T w (turn_read (T.turn s)) k o.from o.late) ∙ q

    pub commit_tells : CommitTells (commit_rule number σ.lengths σ s)
    commit_tells = lent_own CommitTells _ σ _ _
        (session_ok CommitTells σ _ s _ (λ n p. no_answer _ _ p) (λ n p. no_answer _ _ p) (λ r l e.
        cond_both (not (has_marks σ s)) _ _ CommitTells (λ _ n p. inl (same_at 0 n p)) (λ _.
        cond_both (stale number σ r.mode s r.time) _ _ CommitTells (λ _ n p. no_answer _ _ p) (λ st.
        cond_both (leb 4000000000 σ.clock) _ _ CommitTells (λ _ n p. no_answer _ _ p)
        (λ _ n p. inr (
          same_at _ n p ∙ ap (λ c. c + 1) w.clock,
          fresh_line r e (unstale (is_checked r.mode) (any (stale_line number σ s r.time) σ.ledger) (its_mode r e) st),
        ))))))
