-- The ending that was decided, carried out, is what the rules say of the version that was seen.
use Rattle.std.proofs.Common.{◌≡◌, ℕ, ◌≤◌, Bool, true, false, cond, not, ◌&&◌, List, [], ◌∷◌, ◌++◌, length, take, is_some, Some, None, Ok, Err, Option, Result, sym, refl, ap, ◌∙◌, inl, inr, position}
use Rattle.std.proofs.lemmas.Bool.{cases_Bool, cond-true, cond-false, leb-false}
use Rattle.slots.specs.Lists.{any, first, one}
use Rattle.slots.proofs.Slots.{appended_more, take_changed}
use Rattle.rules.specs.declared.tables.HotRow.{HotRow}
use Rattle.rules.specs.declared.tables.Notice.{Notice}
use Rattle.rules.specs.declared.tables.Line.{Line}
use Rattle.rules.specs.declared.sheet.Sheet.{Sheet}
use Rattle.rules.specs.declared.answers.Side.TheVariants.{Seller}
use Rattle.rules.specs.declared.answers.Refusal.{Refusal}
use Rattle.rules.specs.declared.answers.Refusal.TheVariants as refusal
use Rattle.rules.specs.Stores.{Store, with_tables, with_hot, with_memo, with_finds, memo_full}
use Rattle.rules.specs.Looking.{Seen, hot_one, cold_one, nothing, hot_sees, is_for, notice_for, looked}
use Rattle.rules.specs.Selling.{end_row, end_notice, new_end, end_entry, end_seen, wants_notice}
use Rattle.std.specs.List.{position_or_len}
use Rattle.scan.specs.Told.{seen_at, looked_at}
use Rattle.scan.specs.declared.looked.Looked.{Looked}
use Rattle.scan.proofs.Placing.{place_changed, any_place}
use Rattle.seller.specs.declared.ending.Ending.{Ending}
use Rattle.seller.specs.declared.ending.Ending.TheVariants.{Row, Turn, Add}
use Rattle.seller.specs.Ending.{by_notice, ending_of, ended_hot, ended_memo, ending_count}
use Rattle.seller.proofs.Admission.{Entered}
use Rattle.seller.proofs.Parts.{with_count}

pub first_any : {X : Type 0} (p : X → Bool) (xs : List X) → is_some (first p xs) ≡ any p xs
unfolding first any
first_any p [] = refl
first_any p (x ∷ xs) = let i = first_any p xs in elim (cases_Bool (p x)) [ inl e ↦ rw e | inr e ↦ rw e i ]

-- the used part of the hot table after an ending
pub take_ended : {K R : Type 0} (x : Option Ending) (s used : ℕ) (hot : List (HotRow K R)) → take used (ended_hot x s hot) ≡ ended_hot x s (take used hot)
take_ended None s used hot = refl
take_ended (Some (Row i)) s used hot = take_changed (end_row s) used i hot
take_ended (Some (Turn i)) s used hot = refl
take_ended (Some (Add tag)) s used hot = refl

pub ended_count : (x : Option Ending) (room used : ℕ) → used ≤ room → ending_count room used x ≤ room
ended_count None room used h = h
ended_count (Some (Row i)) room used h = h
ended_count (Some (Turn i)) room used h = h
ended_count (Some (Add tag)) room used h = with_count room used h

-- the notices after an ending, counted as the sheet does
pub ended_notices : {K R : Type 0} (sheet : Sheet) (hot : List (HotRow K R)) (memo : List (Notice K)) (ledger : List (Line K)) (s : ℕ)
    → Entered sheet hot memo ledger s → (x : Option Ending) (key : K) {notices : List (Notice K)}
    → notices ≡ ended_memo (length memo) sheet.memo.used x s key (take sheet.memo.used memo)
    → notices ≡ ended_memo sheet.memo.length (length (take sheet.memo.used memo)) x s key (take sheet.memo.used memo)
ended_notices sheet hot memo ledger s w x key e =
    let xs = take sheet.memo.used memo in
    e ∙ ap (λ n. ended_memo n sheet.memo.used x s key xs) w.memo_long
    ∙ ap (λ n. ended_memo sheet.memo.length n x s key xs) (sym w.memo_count)

module _ {K R : Type 0} (number : K → ℕ) (τ : Store K R) (s t : ℕ) (key : K) where
  -- an ending carried out
  abbrev pub carried : Option Ending → Store K R
  carried x =
      with_tables τ (ended_hot x s τ.hot) (ended_memo τ.lengths.memos (length τ.memo) x s key τ.memo) τ.ledger

  -- a refusal goes one way, an ending that is carried out the other
  abbrev pub by_ending : {X : Type 0} → (Refusal → X) → (Store K R → X) → Result (Option Ending) Refusal → X
  by_ending refuse carry (Err e) = refuse e
  by_ending refuse carry (Ok x) = carry (carried x)

  module _ {X : Type 0} (refuse : Refusal → X) (carry : Store K R → X) where
    entry_ends : (tag : ℕ) (o : Option (Notice K)) → first (is_for number (number key) tag) τ.memo ≡ o
        → by_ending refuse carry (by_notice (memo_full τ) tag (position (is_for number (number key) tag) τ.memo))
        ≡ cond (not (is_some o) && memo_full τ) (refuse (refusal.MemoFull Seller)) (carry (with_memo τ (end_entry number o τ.memo s key tag)))
    entry_ends tag (Some n) h =
        let p = is_for number (number key) tag in
        ap (λ z. by_ending refuse carry (by_notice (memo_full τ) tag z)) (cond-true _ _ _ (sym (any_place p τ.memo) ∙ sym (first_any p τ.memo) ∙ ap is_some h))
        ∙ ap (λ z. carry (with_memo τ z)) (place_changed p (end_notice s) τ.memo)
    entry_ends tag None h =
        let p = is_for number (number key) tag in
        ap (λ z. by_ending refuse carry (by_notice (memo_full τ) tag z)) (cond-false _ _ _ (sym (any_place p τ.memo) ∙ sym (first_any p τ.memo) ∙ ap is_some h))
        ∙ go (memo_full τ) refl
      where
        go : (b : Bool) → memo_full τ ≡ b → by_ending refuse carry (cond b (Err (refusal.MemoFull Seller)) (Ok (Some (Add tag))))
            ≡ cond b (refuse (refusal.MemoFull Seller)) (carry (with_memo τ (τ.memo ++ one (new_end s key tag))))
        go true e = refl
        go false e =
            ap (λ z. carry (with_memo τ z))
            (appended_more τ.lengths.memos (length τ.memo) (new_end s key tag) τ.memo (leb-false τ.lengths.memos (length τ.memo) e))

    pub ends : (v : Seen K R)
        → by_ending refuse carry (ending_of number (memo_full τ) τ.memo (number key) (seen_at (position_or_len (hot_sees number s t (number key)) τ.hot) v))
        ≡ cond (wants_notice number τ (number key) v && memo_full τ) (refuse (refusal.MemoFull Seller)) (carry (end_seen number τ s t key v))
    ends (hot_one h) = ap (λ z. carry (with_hot τ z)) (place_changed (hot_sees number s t (number key)) (end_row s) τ.hot)
    ends (cold_one c) = entry_ends c.tag (notice_for number τ.memo (number key) c.tag) refl
    ends nothing = refl

-- the same, of what a lookup told, under the names that the code has for the key's number and the full memo
module _ {K R : Type 0} (number : K → ℕ) (σ : Store K R) (s t : ℕ) (key : K) {X : Type 0} (refuse : Refusal → X) (carry : Store K R → X) where
  pub ends_looked : (n : ℕ) → n ≡ number key
      → (l : Looked R) → l ≡ looked_at (position_or_len (hot_sees number s t (number key)) σ.hot) (looked number σ s t (number key))
      → (full : Bool) → full ≡ memo_full σ → {x : Result (Option Ending) Refusal} → x ≡ ending_of number full σ.memo n l.seen
      → by_ending number (with_finds σ l.finds) s t key refuse carry x
      ≡ cond (wants_notice number σ (number key) (looked number σ s t (number key)).seen && memo_full σ) (refuse (refusal.MemoFull Seller))
      (carry (end_seen number (with_finds σ (looked number σ s t (number key)).finds) s t key (looked number σ s t (number key)).seen))
  ends_looked n told l e full f {x} z =
      let L = looked number σ s t (number key) in
      let i = position_or_len (hot_sees number s t (number key)) σ.hot in
      let same : x ≡ ending_of number (memo_full σ) σ.memo (number key) (seen_at i L.seen) =
      z ∙ ap (λ b. ending_of number b σ.memo n l.seen) f ∙ ap (λ k. ending_of number (memo_full σ) σ.memo k l.seen) told
      ∙ ap (λ (y : Looked R). ending_of number (memo_full σ) σ.memo (number key) y.seen) e in
      ap (by_ending number (with_finds σ l.finds) s t key refuse carry) same
      ∙ ap (λ (y : Looked R). by_ending number (with_finds σ y.finds) s t key refuse carry
      (ending_of number (memo_full σ) σ.memo (number key) (seen_at i L.seen))) e
      ∙ ends number (with_finds σ L.finds) s t key refuse carry L.seen
