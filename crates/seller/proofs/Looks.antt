-- The ledger's lines, and how read leaves, each way against the rule.
use Rattle.std.proofs.Common.{◌≡◌, ℕ, ◌≤◌, Bool, true, false, cond, ◌&&◌, leb, List, ◌++◌, length, take, Ok, Option, sym, refl, ap, ◌∙◌, option_map, is_some, Some, None}
use Rattle.std.proofs.lemmas.Bool.{cond-true, cond-false, leb-false}
use Rattle.std.specs.Option.{option_map_or}
use Rattle.std.specs.Bool.{then_some}
use Rattle.slots.specs.Lists.{one, appended, count_with}
use Rattle.slots.proofs.Slots.{appended_more}
use Rattle.cold.specs.Cold.{Entry}
use Rattle.rules.specs.declared.tables.HotRow.{HotRow}
use Rattle.rules.specs.declared.tables.Notice.{Notice}
use Rattle.rules.specs.declared.tables.Line.{Line}
use Rattle.rules.specs.declared.sheet.Mode.{Mode}
use Rattle.rules.specs.declared.sheet.Reading.{Reading}
use Rattle.rules.specs.declared.sheet.Sheet.{Sheet}
use Rattle.rules.specs.declared.answers.Refusal.TheVariants as refusal
use Rattle.rules.specs.declared.answers.Answer.TheVariants as answer
use Rattle.rules.specs.Stores.{Store, store, lent, with_ledger, with_finds, ledger_full}
use Rattle.rules.specs.Outcomes.{Outcome, served, refused, untold}
use Rattle.rules.specs.Looking.{looked, row_of}
use Rattle.rules.specs.Selling.{new_line, noted, read_rule}
use Rattle.scan.specs.Bare.{bare}
use Rattle.scan.specs.Told.{looked_at}
use Rattle.scan.specs.declared.looked.Looked.{Looked}
use Rattle.scan.proofs.Lookups.{row_told}
use Rattle.seller.specs.Admitted.{admitted}
use Rattle.seller.proofs.Admission.{is_admitted, entered}
use Rattle.seller.proofs.Parts.{with_count}

-- a line that is to be entered goes to the end, where the ledger has room for it
pub lined : {K : Type 0} (line : Option (Line K)) (room used : ℕ) (xs : List (Line K)) → false ≡ (is_some line && leb room used)
    → option_map_or (λ x. appended room used x xs) line xs ≡ option_map_or (λ x. xs ++ one x) line xs
lined (Some x) room used xs h = appended_more room used x xs (leb-false room used (sym h))
lined None room used xs h = refl

pub lined_count : {K : Type 0} (line : Option (Line K)) (room used : ℕ) → used ≤ room → option_map_or (λ x. count_with room used) line used ≤ room
lined_count (Some x) room used h = with_count room used h
lined_count None room used h = h

-- a value where the test says so
some_if : {X : Type 0} (b : Bool) (x : X) → is_some (then_some b x) ≡ b
some_if true x = refl
some_if false x = refl

map_if : {X Y : Type 0} (b : Bool) (x : X) (f : X → Y) (d : Y) → option_map_or f (then_some b x) d ≡ cond b (f x) d
map_if true x f d = refl
map_if false x f d = refl

module _ {K R : Type 0} (number : K → ℕ) (sheet : Sheet) (hot : List (HotRow K R)) (memo : List (Notice K)) (ledger : List (Line K))
    (es : List (Entry R)) (limit : ℕ) (admits : ℕ → Bool) (s : ℕ) (key : K) where
  abbrev σ : Store K R
  σ = store sheet hot memo ledger es limit admits

  abbrev reads : Mode → ℕ → Outcome K R
  reads mode t =
      cond (new_line number σ mode s (number key) && ledger_full σ) (refused refusal.LedgerFull (untold σ))
      (served (answer.Row (row_of (looked number σ s t (number key)).seen))
      (noted number (with_finds σ (looked number σ s t (number key)).finds) mode s key))

  module _ (r : Reading) (q : Ok r ≡ admitted (lent hot memo ledger) (bare sheet hot memo ledger) s)
      (line : Option (Line K)) (new : line ≡ then_some (new_line number σ r.mode s (number key)) (record { session = s; key = key })) where
    pub short_is : (new_line number σ r.mode s (number key) && ledger_full σ) ≡ (is_some line && leb sheet.ledger.length sheet.ledger.used)
    short_is =
        ap (λ b. b && ledger_full σ) (sym (some_if (new_line number σ r.mode s (number key)) _) ∙ ap is_some (sym new))
        ∙ ap (λ n. is_some line && leb sheet.ledger.length n) (entered sheet hot memo ledger s q).ledger_count

    pub read_short : true ≡ (is_some line && leb sheet.ledger.length sheet.ledger.used)
        → refused refusal.LedgerFull (untold σ) ≡ read_rule number (lent hot memo ledger) σ s key
    read_short h = sym (cond-true _ _ _ (short_is ∙ sym h)) ∙ is_admitted (lent hot memo ledger) σ (untold σ) s reads q

    module _ (h : false ≡ (is_some line && leb sheet.ledger.length sheet.ledger.used)) where
      -- the ledger after the line
      pub lines_are : {lines : List (Line K)}
          → lines ≡ option_map_or (λ x. appended (length ledger) sheet.ledger.used x (take sheet.ledger.used ledger)) line
          (take sheet.ledger.used ledger)
          → lines ≡ cond (new_line number σ r.mode s (number key)) (σ.ledger ++ one (record { session = s; key = key })) σ.ledger
      lines_are e =
          let long = (entered sheet hot memo ledger s q).ledger_long in
          e ∙ lined line (length ledger) sheet.ledger.used σ.ledger (h ∙ ap (λ n. is_some line && leb n sheet.ledger.used) (sym long))
          ∙ ap (λ l. option_map_or (λ x. σ.ledger ++ one x) l σ.ledger) new
          ∙ map_if (new_line number σ r.mode s (number key)) _ (λ x. σ.ledger ++ one x) σ.ledger

      pub read_served : (i : ℕ) (l : Looked R) → l ≡ looked_at i (looked number σ s r.time (number key)) → {o : Option R} → o ≡ option_map (λ v. v.row) l.seen
          → {lines : List (Line K)}
          → lines ≡ option_map_or (λ x. appended (length ledger) sheet.ledger.used x (take sheet.ledger.used ledger)) line
          (take sheet.ledger.used ledger)
          → served (answer.Row o) (with_ledger (with_finds σ l.finds) lines) ≡ read_rule number (lent hot memo ledger) σ s key
      read_served i l e {o} f {lines} g =
          let row : o ≡ row_of (looked number σ s r.time (number key)).seen =
          f ∙ ap (λ (z : Looked R). option_map (λ v. v.row) z.seen) e ∙ row_told i (looked number σ s r.time (number key)).seen in
          ap (λ z. served (answer.Row z) (with_ledger (with_finds σ l.finds) lines)) row
          ∙ ap (λ (z : Looked R). served (answer.Row (row_of (looked number σ s r.time (number key)).seen)) (with_ledger (with_finds σ z.finds) lines)) e
          ∙ ap (λ z. served (answer.Row (row_of (looked number σ s r.time (number key)).seen))
          (with_ledger (with_finds σ (looked number σ s r.time (number key)).finds) z)) (lines_are g)
          ∙ sym (cond-false _ _ _ (short_is ∙ sym h)) ∙ is_admitted (lent hot memo ledger) σ (untold σ) s reads q
