-- How drop leaves, each way against the rule.
use Rattle.std.proofs.Common.{◌≡◌, ℕ, Bool, true, false, cond, ◌&&◌, leb, List, [], ◌++◌, length, take, is_some, Some, None, Ok, Err, Result, sym, refl, ap, ◌∙◌, position, Option}
use Rattle.std.specs.List.{remove, position_or_len}
use Rattle.std.proofs.lemmas.Bool.{cond-true, cond-false}
use Rattle.std.specs.Option.{option_map_or}
use Rattle.std.specs.Bool.{then_some}
use Rattle.slots.specs.Lists.{any, one, at_first, appended}
use Rattle.cold.specs.Cold.{Entry}
use Rattle.rules.specs.declared.tables.HotRow.{HotRow}
use Rattle.rules.specs.declared.tables.Notice.{Notice}
use Rattle.rules.specs.declared.tables.Line.{Line}
use Rattle.rules.specs.declared.sheet.Mode.{Mode}
use Rattle.rules.specs.declared.sheet.Reading.{Reading}
use Rattle.rules.specs.declared.sheet.Sheet.{Sheet}
use Rattle.rules.specs.declared.answers.Refusal.{Refusal}
use Rattle.rules.specs.declared.answers.Refusal.TheVariants as refusal
use Rattle.rules.specs.declared.answers.Answer.TheVariants as answer
use Rattle.rules.specs.Stores.{Store, store, lent, with_tables, with_finds, ledger_full}
use Rattle.rules.specs.Outcomes.{Outcome, served, refused, untold}
use Rattle.rules.specs.Looking.{hot_sees, conflict, looked, row_of}
use Rattle.rules.specs.Selling.{hot_own, new_line, noted, drop_own, drop_seen, drop_rule}
use Rattle.scan.specs.Bare.{bare}
use Rattle.scan.specs.Told.{looked_at}
use Rattle.scan.specs.declared.looked.Looked.{Looked}
use Rattle.scan.proofs.Placing.{place_removed, placed_some, placed_none}
use Rattle.scan.proofs.Lookups.{any_told}
use Rattle.seller.specs.declared.ending.Ending.{Ending}
use Rattle.seller.specs.Admitted.{admitted}
use Rattle.seller.specs.Ending.{ending_of, ended_hot, ended_memo}
use Rattle.seller.proofs.Admission.{is_admitted, entered}
use Rattle.seller.proofs.Endings.{by_ending, ends_looked, ended_notices, take_ended}
use Rattle.seller.proofs.Looks.{short_is, lines_are}
use Rattle.seller.proofs.Parts.{same_tables}

module _ {K R : Type 0} (number : K → ℕ) (sheet : Sheet) (hot : List (HotRow K R)) (memo : List (Notice K)) (ledger : List (Line K))
    (es : List (Entry R)) (limit : ℕ) (admits : ℕ → Bool) (s : ℕ) (key : K) where
  abbrev σ : Store K R
  σ = store sheet hot memo ledger es limit admits

  abbrev drops_lined : Mode → ℕ → Outcome K R
  drops_lined mode t =
      cond (any (hot_own number s (number key)) σ.hot) (served (answer.Was true) (noted number (drop_own number (untold σ) s key) mode s key))
      (drop_seen number σ mode s t key (looked number σ s t (number key)))

  abbrev drops : Mode → ℕ → Outcome K R
  drops mode t =
      cond (conflict number σ s t (number key)) (refused refusal.Conflict (untold σ))
      (cond (new_line number σ mode s (number key) && ledger_full σ) (refused refusal.LedgerFull (untold σ)) (drops_lined mode t))

  -- the ledger's list after the call
  abbrev lines_after : Option (Line K) → List (Line K)
  lines_after line =
      option_map_or (λ x. appended (length ledger) sheet.ledger.used x (take sheet.ledger.used ledger)) line
      (take sheet.ledger.used ledger)

  module _ (r : Reading) (q : Ok r ≡ admitted (lent hot memo ledger) (bare sheet hot memo ledger) s) (n : ℕ) (told : n ≡ number key) where
    module _ (c : false ≡ conflict number σ s r.time n) (line : Option (Line K)) (new : line ≡ then_some (new_line number σ r.mode s n) (record { session = s; key = key })) where
      new_is : line ≡ then_some (new_line number σ r.mode s (number key)) (record { session = s; key = key })
      new_is = new ∙ ap (λ k. then_some (new_line number σ r.mode s k) (record { session = s; key = key })) told

      apart : cond (new_line number σ r.mode s (number key) && ledger_full σ) (refused refusal.LedgerFull (untold σ)) (drops_lined r.mode r.time)
          ≡ drop_rule number (lent hot memo ledger) σ s key
      apart =
          sym (cond-false _ _ _ (sym (c ∙ ap (conflict number σ s r.time) told))) ∙ is_admitted (lent hot memo ledger) σ (untold σ) s drops q

      pub drop_short : true ≡ (is_some line && leb sheet.ledger.length sheet.ledger.used)
          → refused refusal.LedgerFull (untold σ) ≡ drop_rule number (lent hot memo ledger) σ s key
      drop_short h =
          sym (cond-true _ _ _ (short_is number sheet hot memo ledger es limit admits s key r q line new_is ∙ sym h)) ∙ apart

      module _ (h : false ≡ (is_some line && leb sheet.ledger.length sheet.ledger.used)) where
        lined : drops_lined r.mode r.time ≡ drop_rule number (lent hot memo ledger) σ s key
        lined = sym (cond-false _ _ _ (short_is number sheet hot memo ledger es limit admits s key r q line new_is ∙ sym h)) ∙ apart

        noted_lines : {lines : List (Line K)} → lines ≡ lines_after line
            → lines ≡ cond (new_line number σ r.mode s (number key)) (σ.ledger ++ one (record { session = s; key = key })) σ.ledger
        noted_lines e = lines_are number sheet hot memo ledger es limit admits s key r q line new_is h e

        pub dropped_own : (i : ℕ) → Some i ≡ position (hot_own number s n) σ.hot → {rows : List (HotRow K R)} → rows ≡ remove σ.hot i
            → {lines : List (Line K)} → lines ≡ lines_after line
            → served (answer.Was true) (with_tables (untold σ) rows σ.memo lines) ≡ drop_rule number (lent hot memo ledger) σ s key
        dropped_own i e {rows} f {lines} l =
            let own = hot_own number s (number key) in
            let at = placed_some own σ.hot i (e ∙ ap (λ k. position (hot_own number s k) σ.hot) told) in
            let rows_are : rows ≡ at_first own (λ x. []) σ.hot = f ∙ ap (remove σ.hot) at.1 ∙ place_removed own σ.hot in
            ap (served (answer.Was true)) (same_tables (untold σ) rows_are refl (noted_lines l)) ∙ sym (cond-true _ _ _ at.0) ∙ lined

        module _ (o : None ≡ position (hot_own number s n) σ.hot) (l : Looked R)
            (e : l ≡ looked_at (position_or_len (hot_sees number s r.time (number key)) σ.hot) (looked number σ s r.time (number key)))
            (full : Bool) (f : full ≡ leb sheet.memo.length sheet.memo.used) where
          seen : {x : Result (Option Ending) Refusal} → x ≡ ending_of number full σ.memo n l.seen
              → by_ending number (with_finds σ l.finds) s r.time key (λ e. refused e (untold σ))
              (λ τ. served (answer.Was (is_some (row_of (looked number σ s r.time (number key)).seen))) (noted number τ r.mode s key)) x
              ≡ drop_rule number (lent hot memo ledger) σ s key
          seen {x} z =
              let own = hot_own number s (number key) in
              ends_looked number σ s r.time key (λ e. refused e (untold σ))
              (λ τ. served (answer.Was (is_some (row_of (looked number σ s r.time (number key)).seen))) (noted number τ r.mode s key))
              n told l e full (f ∙ ap (leb sheet.memo.length) (sym (entered sheet hot memo ledger s q).memo_count)) z
              ∙ sym (cond-false _ _ _ (placed_none own σ.hot (o ∙ ap (λ k. position (hot_own number s k) σ.hot) told))) ∙ lined

          pub drop_unnoted : {x : Refusal} → Err x ≡ ending_of number full σ.memo n l.seen
              → refused x (untold σ) ≡ drop_rule number (lent hot memo ledger) σ s key
          drop_unnoted z = seen z

          pub drop_served : {x : Option Ending} → Ok x ≡ ending_of number full σ.memo n l.seen
              → {was : Bool} → was ≡ is_some l.seen
              → {ended : List (HotRow K R)} → ended ≡ ended_hot x s hot
              → {notices : List (Notice K)} → notices ≡ ended_memo (length memo) sheet.memo.used x s key σ.memo
              → {lines : List (Line K)} → lines ≡ lines_after line
              → served (answer.Was was) (with_tables (with_finds σ l.finds) (take sheet.hot.used ended) notices lines)
              ≡ drop_rule number (lent hot memo ledger) σ s key
          drop_served {x} z {was} w {ended} a {notices} b {lines} d =
              let L = looked number σ s r.time (number key) in
              let was_is : was ≡ is_some (row_of L.seen) =
              w ∙ ap (λ (y : Looked R). is_some y.seen) e ∙ any_told (position_or_len (hot_sees number s r.time (number key)) σ.hot) L.seen in
              ap (λ y. served (answer.Was y) (with_tables (with_finds σ l.finds) (take sheet.hot.used ended) notices lines)) was_is
              ∙ ap (served (answer.Was (is_some (row_of L.seen))))
              (same_tables (with_finds σ l.finds) (ap (take sheet.hot.used) a ∙ take_ended x s sheet.hot.used hot)
              (ended_notices sheet hot memo ledger s (entered sheet hot memo ledger s q) x key b) (noted_lines d))
              ∙ seen z
