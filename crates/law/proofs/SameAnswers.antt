-- One seller call to each of two twins: they answer alike, and their ledgers say the same after, unless one of them refuses
-- for a full hot table or memo.
use Rattle.std.proofs.Common.{◌≡◌, ℕ, ◌+◌, Bool, true, false, cond, not, ◌&&◌, ltb, leb, is_some, Some, None, Option, sym, refl, ap, ◌∙◌, Ok}
use Rattle.std.proofs.lemmas.Bool.{cond_both, true≢false, false≢true}
use Rattle.slots.specs.Lists.{any}
use Rattle.slots.proofs.Folds.{first_some}
use Rattle.rules.specs.declared.sheet.Mode.{Mode}
use Rattle.rules.specs.declared.sheet.Reading.{Reading}
use Rattle.rules.specs.declared.answers.Side.{Side}
use Rattle.rules.specs.declared.answers.Side.TheVariants.{Seller}
use Rattle.rules.specs.declared.answers.Refusal.{Refusal}
use Rattle.rules.specs.declared.answers.Refusal.TheVariants as refusal
use Rattle.rules.specs.declared.answers.Answer.TheVariants as answer
use Rattle.rules.specs.declared.answers.Call.{Call}
use Rattle.rules.specs.declared.answers.Call.TheVariants as call
use Rattle.rules.specs.Stores.{Store, session_at, opened_at, with_session, with_finds, hot_full, memo_full, ledger_full}
use Rattle.rules.specs.Outcomes.{Told, Outcome, served, refused, untold, if_open, if_lent, for_session}
use Rattle.rules.specs.Looking.{conflict, Seen, hot_one, cold_one, nothing, Looked, looked}
use Rattle.rules.specs.Selling.{begin_rule, read_rule, put_rule, drop_rule, commit_rule, abandon_rule, new_line, noted, hot_own, wants_notice, end_seen, replace_own, drop_own, put_seen, drop_seen}
use Rattle.versions.specs.History.{History, over, shown, turn_writes}
use Rattle.cells.proofs.Cells.{Whole}
use Rattle.cells.proofs.Looking.{lookup_is}
use Rattle.cells.proofs.Writes.{may_write}
use Rattle.cells.proofs.OwnRows.{has_put}
use Rattle.law.specs.Runs.{answering, Step, by_seller}
use Rattle.law.specs.Law.{cramped}
use Rattle.law.proofs.Steps.{same_lengths_self}
use Rattle.law.proofs.Twins.{SameLedger, same_new, same_full, same_noted, same_close, Twins, same_clock, same_reading, same_marks, at_twin, same_row, same_conflict, same_stale}

module _ {K R : Type 0} (number : K → ℕ) where
  -- of two outcomes: unless one is a refusal for want of room, the answers are the same and the ledgers say the same
  pub record AlikeBoth (x y : Outcome K R) : Type 0 where
    pub unless_cramped : cramped x.answer ≡ false → cramped y.answer ≡ false
        → (x.answer ≡ y.answer) × SameLedger number x.after y.after

  both : {x y : Outcome K R} → x.answer ≡ y.answer → SameLedger number x.after y.after → AlikeBoth x y
  both e l = record { unless_cramped = λ _ _. (e, l) }

  -- both go one way at a test that comes out the same
  both_ways : {x y u v : Outcome K R} (p q : Bool) → p ≡ q → (p ≡ true → AlikeBoth x u) → (p ≡ false → AlikeBoth y v)
      → AlikeBoth (cond p x y) (cond q u v)
  both_ways true true e hit miss = hit refl
  both_ways true false e hit miss = absurd (true≢false e)
  both_ways false true e hit miss = absurd (false≢true e)
  both_ways false false e hit miss = miss refl

  -- of one outcome: unless it is a refusal for want of room, it answers a, and its ledger says what that of ρ says
  record Gives (z : Outcome K R) (a : Told R) (ρ : Store K R) : Type 0 where
    unless_short : cramped z.answer ≡ false → (z.answer ≡ a) × SameLedger number z.after ρ

  short : {z : Outcome K R} {a : Told R} {ρ : Store K R} → cramped z.answer ≡ true → Gives z a ρ
  short h = record { unless_short = λ g. absurd (true≢false (sym h ∙ g)) }

  gives : {z : Outcome K R} {a : Told R} {ρ : Store K R} → z.answer ≡ a → SameLedger number z.after ρ → Gives z a ρ
  gives e l = record { unless_short = λ _. (e, l) }

  both_give : {x y : Outcome K R} {a : Told R} {σ τ : Store K R} → Gives x a σ → Gives y a τ → SameLedger number σ τ → AlikeBoth x y
  both_give g h l = record {
    unless_cramped = λ p q.
        let x = g.unless_short p in
        let y = h.unless_short q in
        (x.0 ∙ sym y.0, (x.1.0 ∙ (l.0 ∙ sym y.1.0), x.1.1 ∙ (l.1 ∙ sym y.1.1)));
  }

  -- ending a version leaves the ledger
  ended_ledger : (σ : Store K R) (s t : ℕ) (key : K) (seen : Seen K R) → SameLedger number (end_seen number σ s t key seen) σ
  ended_ledger σ s t key (hot_one h) = (refl, refl)
  ended_ledger σ s t key (cold_one c) = (refl, refl)
  ended_ledger σ s t key nothing = (refl, refl)

  -- what put and drop give, where the key is not in conflict
  module _ (σ : Store K R) (T : History R) (w : Whole number σ T) (s : ℕ) (r : Reading)
      (reads : (session_at σ.sessions s).reading ≡ Some r) (key : K) (free : conflict number σ s r.time (number key) ≡ false) where
    abbrev k : ℕ
    k = number key

    abbrev found : Looked K R
    found = looked number σ s r.time k

    -- the store in which what the lookup finds is ended
    abbrev ended : Store K R
    ended = end_seen number (with_finds σ found.finds) s r.time key found.seen

    ended_same : SameLedger number ended σ
    ended_same = ended_ledger (with_finds σ found.finds) s r.time key found.seen

    put_gives : (row : R)
        → Gives
        (cond (any (hot_own number s k) σ.hot) (served answer.Done (replace_own number (untold σ) s key row))
        (cond (hot_full σ) (refused refusal.HotFull (untold σ)) (put_seen number σ s r.time key row found)))
        (Ok answer.Done) σ
    put_gives row =
        let P : Outcome K R → Type 0 = λ z. Gives z (Ok answer.Done) σ in
        cond_both (any (hot_own number s k) σ.hot) _ _ P (λ _. gives refl (refl, refl)) (λ _.
        cond_both (hot_full σ) _ _ P (λ _. short refl) (λ _.
        cond_both (wants_notice number σ k found.seen && memo_full σ) _ _ P (λ _. short refl)
        (λ _. gives refl ended_same)))

    -- what the history shows the session of the key
    abbrev known : Option R
    known = over (turn_writes (T.turn s) k) (shown T.commits r.time k)

    own_known : any (hot_own number s k) σ.hot ≡ true → is_some known ≡ true
    own_known own =
        let x = first_some _ σ.hot own in
        let put = has_put number (may_write number σ T w s r reads key free) x.0 x.1 in
        ap (λ z. is_some (over z (shown T.commits r.time k))) put.1

    drop_gives :
        Gives
        (cond (any (hot_own number s k) σ.hot) (served (answer.Was true) (noted number (drop_own number (untold σ) s key) r.mode s key))
        (drop_seen number σ r.mode s r.time key found))
        (Ok (answer.Was (is_some known))) (noted number σ r.mode s key)
    drop_gives =
        let P : Outcome K R → Type 0 = λ z. Gives z (Ok (answer.Was (is_some known))) (noted number σ r.mode s key) in
        cond_both (any (hot_own number s k) σ.hot) _ _ P
        (λ own. gives (ap (λ z. Ok (answer.Was z)) (sym (own_known own))) (refl, refl)) (λ _.
        cond_both (wants_notice number σ k found.seen && memo_full σ) _ _ P (λ _. short refl)
        (λ _. gives (ap (λ z. Ok (answer.Was (is_some z))) (lookup_is number σ T w s r k reads)) (same_noted number ended σ ended_same r.mode s key)))

  module _ {σ τ : Store K R} {T : History R} (twins : Twins number σ τ T) where
    -- both refuse
    refuse : (e : Refusal) → AlikeBoth (refused e σ) (refused e τ)
    refuse e = both refl twins.ledger

    refuse_untold : (e : Refusal) → AlikeBoth (refused e (untold σ)) (refused e (untold τ))
    refuse_untold e = both refl twins.ledger

    -- in a run the lent lengths are the opening's
    both_lent : (side : Side) (left right : Store K R) {x y : Outcome K R} → AlikeBoth x y
        → AlikeBoth (if_lent side σ.lengths σ left x) (if_lent side τ.lengths τ right y)
    both_lent side left right b = rw (same_lengths_self σ.lengths, same_lengths_self τ.lengths) b

    -- a session is open in both or in neither, and reads at one time
    both_open : (s : ℕ) (left right : Store K R) (f g : Mode → ℕ → Outcome K R) → SameLedger number left right
        → ((r : Reading) → (session_at σ.sessions s).reading ≡ Some r → AlikeBoth (f r.mode r.time) (g r.mode r.time))
        → AlikeBoth (if_lent Seller σ.lengths σ left (for_session σ left s f)) (if_lent Seller τ.lengths τ right (for_session τ right s g))
    both_open s left right f g l h =
        both_lent Seller left right (both_ways (ltb 63 s) (ltb 63 s) refl (λ _. both refl l)
        (λ _. rw (sym (same_reading number twins s)) (go (session_at σ.sessions s).reading refl)))
      where
        go : (o : Option Reading) → (session_at σ.sessions s).reading ≡ o
            → AlikeBoth (if_open o f (refused refusal.NotOpen left)) (if_open o g (refused refusal.NotOpen right))
        go None e = both refl l
        go (Some r) e = h r e

    begin_both : (s : ℕ) (mode : Mode) → AlikeBoth (begin_rule σ.lengths σ s mode) (begin_rule τ.lengths τ s mode)
    begin_both s mode =
        both_lent Seller σ τ (both_ways (ltb 63 s) (ltb 63 s) refl (λ _. refuse refusal.NoSession)
        (λ _. rw (sym (same_reading number twins s)) (go (session_at σ.sessions s).reading)))
      where
        go : (o : Option Reading) → AlikeBoth
            (if_open o (λ _ _. refused refusal.AlreadyOpen σ) (served answer.Done (with_session σ s (opened_at mode σ.clock))))
            (if_open o (λ _ _. refused refusal.AlreadyOpen τ) (served answer.Done (with_session τ s (opened_at mode τ.clock))))
        go None = both refl twins.ledger
        go (Some r) = refuse refusal.AlreadyOpen

    -- whether a line is new and there is no slot for it
    no_slot : (mode : Mode) (s k : ℕ) → (new_line number σ mode s k && ledger_full σ) ≡ (new_line number τ mode s k && ledger_full τ)
    no_slot mode s k = rw (same_new number σ τ twins.ledger mode s k, same_full number σ τ twins.ledger)

    read_both : (s : ℕ) (key : K) → AlikeBoth (read_rule number σ.lengths σ s key) (read_rule number τ.lengths τ s key)
    read_both s key = both_open s _ _ _ _ twins.ledger (λ r reads.
        both_ways _ _ (no_slot r.mode s (number key)) (λ _. refuse_untold refusal.LedgerFull)
        (λ _. both (ap (λ z. Ok (answer.Row z)) (same_row number twins s r reads (number key))) (same_noted number σ τ twins.ledger r.mode s key)))

    put_both : (s : ℕ) (key : K) (row : R) → AlikeBoth (put_rule number σ.lengths σ s key row) (put_rule number τ.lengths τ s key row)
    put_both s key row = both_open s _ _ _ _ twins.ledger (λ r reads.
        let same = same_conflict number twins s r reads (number key) in
        both_ways _ _ same (λ _. refuse_untold refusal.Conflict)
        (λ free. both_give (put_gives σ T twins.here s r reads key free row)
        (put_gives τ T twins.there s r (at_twin number twins s r reads) key (sym same ∙ free) row) twins.ledger))

    drop_both : (s : ℕ) (key : K) → AlikeBoth (drop_rule number σ.lengths σ s key) (drop_rule number τ.lengths τ s key)
    drop_both s key = both_open s _ _ _ _ twins.ledger (λ r reads.
        let same = same_conflict number twins s r reads (number key) in
        both_ways _ _ same (λ _. refuse_untold refusal.Conflict)
        (λ free. both_ways _ _ (no_slot r.mode s (number key)) (λ _. refuse_untold refusal.LedgerFull)
        (λ _. both_give (drop_gives σ T twins.here s r reads key free)
        (drop_gives τ T twins.there s r (at_twin number twins s r reads) key (sym same ∙ free))
        (same_noted number σ τ twins.ledger r.mode s key))))

    commit_both : (s : ℕ) → AlikeBoth (commit_rule number σ.lengths σ s) (commit_rule number τ.lengths τ s)
    commit_both s = both_open s _ _ _ _ twins.ledger (λ r reads.
        let shut = same_close number σ τ twins.ledger s in
        both_ways _ _ (ap not (same_marks number twins s)) (λ _. both refl shut)
        (λ _. both_ways _ _ (same_stale number twins s r reads) (λ _. both refl shut)
        (λ _. both_ways _ _ (ap (leb 4000000000) (same_clock number twins)) (λ _. refuse refusal.ClockAtEnd)
        (λ _. both (ap (λ z. Ok (answer.At (z + 1))) (same_clock number twins)) shut))))

    abandon_both : (s : ℕ) → AlikeBoth (abandon_rule σ.lengths σ s) (abandon_rule τ.lengths τ s)
    abandon_both s = both_open s _ _ _ _ twins.ledger (λ r reads. both refl (same_close number σ τ twins.ledger s))

    -- whatever the seller call
    pub step_both : (c : Call K R) → by_seller c ≡ true → (a d : Told R) (σ_next τ_next : Store K R)
        → Step number σ c a σ_next → Step number τ c d τ_next → AlikeBoth (answering a σ_next) (answering d τ_next)
    step_both (call.Begin s m) h a d σ_next τ_next e f = rw (sym e, sym f) (begin_both s m)
    step_both (call.Read s k) h a d σ_next τ_next e f = rw (sym e, sym f) (read_both s k)
    step_both (call.Put s k r) h a d σ_next τ_next e f = rw (sym e, sym f) (put_both s k r)
    step_both (call.Drop s k) h a d σ_next τ_next e f = rw (sym e, sym f) (drop_both s k)
    step_both (call.Commit s) h a d σ_next τ_next e f = rw (sym e, sym f) (commit_both s)
    step_both (call.Abandon s) h a d σ_next τ_next e f = rw (sym e, sym f) (abandon_both s)
    step_both (call.Choose k) h a d σ_next τ_next e f = absurd (false≢true h)
    step_both (call.Copy t) h a d σ_next τ_next e f = absurd (false≢true h)
    step_both (call.Settle t) h a d σ_next τ_next e f = absurd (false≢true h)
    step_both (call.GiveUp t) h a d σ_next τ_next e f = absurd (false≢true h)
    step_both call.Sweep h a d σ_next τ_next e f = absurd (false≢true h)
    step_both call.Collect h a d σ_next τ_next e f = absurd (false≢true h)
