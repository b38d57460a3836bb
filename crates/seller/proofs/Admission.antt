-- The first causes of a call, tried by one function.
use Rattle.std.proofs.Common.{◌≡◌, ℕ, ◌<◌, Bool, true, false, cond, eqb, ltb, List, length, take, Some, None, Ok, Err, Option, Result, ok_or, refl, ap, ◌∙◌, arith}
use Rattle.std.proofs.lemmas.List.{length-take-le}
use Rattle.std.proofs.lemmas.Bool.{and_parts, eqb-true, ltb-false}
use Rattle.rules.specs.declared.tables.HotRow.{HotRow}
use Rattle.rules.specs.declared.tables.Notice.{Notice}
use Rattle.rules.specs.declared.tables.Line.{Line}
use Rattle.rules.specs.declared.sheet.Mode.{Mode}
use Rattle.rules.specs.declared.sheet.Reading.{Reading}
use Rattle.rules.specs.declared.sheet.Sheet.{Sheet}
use Rattle.rules.specs.declared.answers.Side.TheVariants.{Seller}
use Rattle.rules.specs.declared.answers.Refusal.{Refusal}
use Rattle.rules.specs.declared.answers.Refusal.TheVariants as refusal
use Rattle.rules.specs.Stores.{Store, Lengths, lent, same_lengths, session_at}
use Rattle.rules.specs.Outcomes.{Outcome, refused, if_lent, if_open, for_session}
use Rattle.scan.specs.Bare.{bare}
use Rattle.seller.specs.Admitted.{admitted}

module _ {K R : Type 0} (lent : Lengths) (σ left : Store K R) (s : ℕ) (f : Mode → ℕ → Outcome K R) where
  outcome : Result Reading Refusal → Outcome K R
  outcome (Ok r) = f r.mode r.time
  outcome (Err e) = refused e left

  admission : outcome (admitted lent σ s) ≡ if_lent Seller lent σ left (for_session σ left s f)
  unfolding outcome
  admission = go (same_lengths lent σ.lengths) (ltb 63 s) (session_at σ.sessions s).reading
    where
      go : (a b : Bool) (o : Option Reading)
          → outcome (cond a (cond b (Err refusal.NoSession) (ok_or o refusal.NotOpen)) (Err (refusal.OutOfRange Seller)))
          ≡ cond a (cond b (refused refusal.NoSession left) (if_open o f (refused refusal.NotOpen left))) (refused (refusal.OutOfRange Seller) left)
      go false b o = refl
      go true true o = refl
      go true false None = refl
      go true false (Some r) = refl

  pub is_admitted : {r : Reading} → Ok r ≡ admitted lent σ s → f r.mode r.time ≡ if_lent Seller lent σ left (for_session σ left s f)
  unfolding outcome
  is_admitted q = ap outcome q ∙ admission

-- what a call that is admitted may lean on: the tables' lengths and counts
pub record Entered {K R : Type 0} (sheet : Sheet) (hot : List (HotRow K R)) (memo : List (Notice K)) (ledger : List (Line K)) (s : ℕ) : Type 0 where
  pub hot_long : length hot ≡ sheet.hot.length
  pub memo_long : length memo ≡ sheet.memo.length
  pub ledger_long : length ledger ≡ sheet.ledger.length
  pub hot_count : length (take sheet.hot.used hot) ≡ sheet.hot.used
  pub memo_count : length (take sheet.memo.used memo) ≡ sheet.memo.used
  pub ledger_count : length (take sheet.ledger.used ledger) ≡ sheet.ledger.used
  pub within : s < 64

module _ {K R : Type 0} (sheet : Sheet) (hot : List (HotRow K R)) (memo : List (Notice K)) (ledger : List (Line K)) (s : ℕ) where
  pub entered : {r : Reading} → Ok r ≡ admitted (lent hot memo ledger) (bare sheet hot memo ledger) s → Entered sheet hot memo ledger s
  entered {r} q = go (same_lengths (lent hot memo ledger) (bare sheet hot memo ledger).lengths) refl (ltb 63 s) refl q
    where
      go : (a : Bool) → same_lengths (lent hot memo ledger) (bare sheet hot memo ledger).lengths ≡ a → (b : Bool) → ltb 63 s ≡ b
          → Ok r ≡ cond a (cond b (Err refusal.NoSession) (ok_or (session_at sheet.sessions s).reading refusal.NotOpen)) (Err (refusal.OutOfRange Seller))
          → Entered sheet hot memo ledger s
      go false h b i z = absurd (let z : ◌≡◌ {A = ℕ} 0 1 = cc in omega arith)
      go true h true i z = absurd (let z : ◌≡◌ {A = ℕ} 0 1 = cc in omega arith)
      go true h false i z =
          let p = and_parts (eqb (length hot) sheet.hot.length) _ h in
          let m = and_parts (eqb (length memo) sheet.memo.length) _ p.1 in
          let hots = eqb-true (length hot) sheet.hot.length p.0 in
          let memos = eqb-true (length memo) sheet.memo.length m.0 in
          let lines = eqb-true (length ledger) sheet.ledger.length m.1 in
          let w = ltb-false 63 s i in
          record {
            hot_long = hots;
            memo_long = memos;
            ledger_long = lines;
            hot_count = length-take-le sheet.hot.used hot (omega (arith, sheet.hot.fits));
            memo_count = length-take-le sheet.memo.used memo (omega (arith, sheet.memo.fits));
            ledger_count = length-take-le sheet.ledger.used ledger (omega (arith, sheet.ledger.fits));
            within = omega arith;
          }
