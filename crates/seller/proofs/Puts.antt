-- How put leaves, each way against the rule.
use Rattle.std.proofs.Common.{◌≡◌, ℕ, Bool, true, false, cond, leb, List, ◌++◌, length, take, Some, None, Ok, Err, Result, sym, refl, ap, ◌∙◌, arith, position, Option}
use Rattle.std.proofs.lemmas.Bool.{cond-true, cond-false, leb-false}
use Rattle.slots.specs.Lists.{any, one, at_first, changed_at, appended}
use Rattle.slots.proofs.Slots.{take_changed, appended_more}
use Rattle.cold.specs.Cold.{Entry}
use Rattle.rules.specs.declared.tables.HotRow.{HotRow}
use Rattle.rules.specs.declared.tables.Notice.{Notice}
use Rattle.rules.specs.declared.tables.Line.{Line}
use Rattle.rules.specs.declared.sheet.Mode.{Mode}
use Rattle.rules.specs.declared.sheet.Reading.{Reading}
use Rattle.rules.specs.declared.sheet.Sheet.{Sheet}
use Rattle.rules.specs.declared.answers.Refusal.{Refusal}
use Rattle.rules.specs.declared.answers.Refusal.TheVariants as refusal
use Rattle.rules.specs.declared.answers.Answer.TheVariants as answer
use Rattle.rules.specs.Stores.{Store, store, lent, with_tables, with_hot, with_finds, hot_full}
use Rattle.rules.specs.Outcomes.{Outcome, served, refused, untold}
use Rattle.rules.specs.Looking.{hot_sees, conflict, looked}
use Rattle.rules.specs.Selling.{hot_own, with_row, new_row, push_hot, replace_own, put_seen, put_rule}
use Rattle.scan.specs.Bare.{bare}
use Rattle.std.specs.List.{position_or_len}
use Rattle.scan.specs.Told.{looked_at}
use Rattle.scan.specs.declared.looked.Looked.{Looked}
use Rattle.scan.proofs.Placing.{place_changed, placed_some, placed_none}
use Rattle.seller.specs.declared.ending.Ending.{Ending}
use Rattle.seller.specs.Admitted.{admitted}
use Rattle.seller.specs.Ending.{ending_of, ended_hot, ended_memo}
use Rattle.seller.proofs.Admission.{is_admitted, entered}
use Rattle.seller.proofs.Endings.{by_ending, ends_looked, ended_notices, take_ended}
use Rattle.seller.proofs.Parts.{same_tables}

module _ {K R : Type 0} (number : K → ℕ) (sheet : Sheet) (hot : List (HotRow K R)) (memo : List (Notice K)) (ledger : List (Line K))
    (es : List (Entry R)) (limit : ℕ) (admits : ℕ → Bool) (s : ℕ) (key : K) (row : R) where
  abbrev σ : Store K R
  σ = store sheet hot memo ledger es limit admits

  abbrev puts_new : ℕ → Outcome K R
  puts_new t = cond (hot_full σ) (refused refusal.HotFull (untold σ)) (put_seen number σ s t key row (looked number σ s t (number key)))

  abbrev puts : Mode → ℕ → Outcome K R
  puts mode t =
      cond (conflict number σ s t (number key)) (refused refusal.Conflict (untold σ))
      (cond (any (hot_own number s (number key)) σ.hot) (served answer.Done (replace_own number (untold σ) s key row)) (puts_new t))

  module _ (r : Reading) (q : Ok r ≡ admitted (lent hot memo ledger) (bare sheet hot memo ledger) s) (n : ℕ) (told : n ≡ number key) where
    module _ (c : false ≡ conflict number σ s r.time n) where
      apart : cond (any (hot_own number s (number key)) σ.hot) (served answer.Done (replace_own number (untold σ) s key row)) (puts_new r.time)
          ≡ put_rule number (lent hot memo ledger) σ s key row
      apart =
          sym (cond-false _ _ _ (sym (c ∙ ap (conflict number σ s r.time) told))) ∙ is_admitted (lent hot memo ledger) σ (untold σ) s puts q

      pub put_own : (i : ℕ) → Some i ≡ position (hot_own number s n) σ.hot → {rows : List (HotRow K R)} → rows ≡ changed_at i (with_row row) hot
          → served answer.Done (with_hot (untold σ) (take sheet.hot.used rows)) ≡ put_rule number (lent hot memo ledger) σ s key row
      put_own i e {rows} f =
          let own = hot_own number s (number key) in
          let at = placed_some own σ.hot i (e ∙ ap (λ k. position (hot_own number s k) σ.hot) told) in
          let list : take sheet.hot.used rows ≡ at_first own (λ x. one (with_row row x)) σ.hot =
          ap (take sheet.hot.used) f ∙ take_changed (with_row row) sheet.hot.used i hot
          ∙ ap (λ j. changed_at j (with_row row) σ.hot) at.1 ∙ place_changed own (with_row row) σ.hot in
          ap (λ z. served answer.Done (with_hot (untold σ) z)) list ∙ sym (cond-true _ _ _ at.0) ∙ apart

      module _ (o : None ≡ position (hot_own number s n) σ.hot) where
        unowned : puts_new r.time ≡ put_rule number (lent hot memo ledger) σ s key row
        unowned =
            let own = hot_own number s (number key) in
            sym (cond-false _ _ _ (placed_none own σ.hot (o ∙ ap (λ k. position (hot_own number s k) σ.hot) told))) ∙ apart

        pub put_full : true ≡ leb sheet.hot.length sheet.hot.used
            → refused refusal.HotFull (untold σ) ≡ put_rule number (lent hot memo ledger) σ s key row
        put_full h =
            let w = entered sheet hot memo ledger s q in
            sym (cond-true _ _ _ (ap (leb sheet.hot.length) w.hot_count ∙ sym h)) ∙ unowned

        module _ (h : false ≡ leb sheet.hot.length sheet.hot.used) (l : Looked R)
            (e : l ≡ looked_at (position_or_len (hot_sees number s r.time (number key)) σ.hot) (looked number σ s r.time (number key)))
            (full : Bool) (f : full ≡ leb sheet.memo.length sheet.memo.used) where
          free : put_seen number σ s r.time key row (looked number σ s r.time (number key)) ≡ put_rule number (lent hot memo ledger) σ s key row
          free =
              let w = entered sheet hot memo ledger s q in
              sym (cond-false _ _ _ (ap (leb sheet.hot.length) w.hot_count ∙ sym h)) ∙ unowned

          seen : {x : Result (Option Ending) Refusal} → x ≡ ending_of number full σ.memo n l.seen
              → by_ending number (with_finds σ l.finds) s r.time key (λ e. refused e (untold σ))
              (λ τ. served answer.Done (push_hot τ (new_row s key row))) x
              ≡ put_rule number (lent hot memo ledger) σ s key row
          seen {x} z =
              ends_looked number σ s r.time key (λ e. refused e (untold σ)) (λ τ. served answer.Done (push_hot τ (new_row s key row)))
              n told l e full (f ∙ ap (leb sheet.memo.length) (sym (entered sheet hot memo ledger s q).memo_count)) z
              ∙ free

          pub put_unnoted : {x : Refusal} → Err x ≡ ending_of number full σ.memo n l.seen
              → refused x (untold σ) ≡ put_rule number (lent hot memo ledger) σ s key row
          put_unnoted z = seen z

          pub put_served : {x : Option Ending} → Ok x ≡ ending_of number full σ.memo n l.seen
              → (ended : List (HotRow K R)) → ended ≡ ended_hot x s hot → length ended ≡ length hot
              → {rows : List (HotRow K R)} → rows ≡ appended (length ended) sheet.hot.used (new_row s key row) (take sheet.hot.used ended)
              → {notices : List (Notice K)} → notices ≡ ended_memo (length memo) sheet.memo.used x s key σ.memo
              → served answer.Done (with_tables (with_finds σ l.finds) rows notices σ.ledger) ≡ put_rule number (lent hot memo ledger) σ s key row
          put_served {x} z ended g m {rows} a {notices} b =
              let w = entered sheet hot memo ledger s q in
              let below = leb-false sheet.hot.length sheet.hot.used (sym h) in
              let rows_are : rows ≡ ended_hot x s σ.hot ++ one (new_row s key row) =
              a ∙ appended_more (length ended) sheet.hot.used _ _ (omega (arith, w.hot_long))
              ∙ ap (λ y. take sheet.hot.used y ++ one (new_row s key row)) g
              ∙ ap (λ y. y ++ one (new_row s key row)) (take_ended x s sheet.hot.used hot) in
              ap (served answer.Done) (same_tables (with_finds σ l.finds) rows_are (ended_notices sheet hot memo ledger s w x key b) refl) ∙ seen z
