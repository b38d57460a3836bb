-- Two runs with the same seller calls answer them alike, whatever other calls fall between.
use Rattle.std.proofs.Common.{◌≡◌, ℕ, zero, suc, true, false, List, [], ◌∷◌, take, sym, refl, ap, ◌∙◌, subst, inl, inr}
use Rattle.std.proofs.lemmas.Bool.{cases_Bool, or_parts}
use Rattle.slots.specs.Lists.{any, kept}
use Rattle.rules.specs.Stores.{Store}
use Rattle.versions.specs.History.{History, feed, fresh}
use Rattle.cells.proofs.Cells.{Whole}
use Rattle.cells.proofs.Beginning.{whole_opened}
use Rattle.law.specs.Runs.{Event, Step, Runs, at_opening, by_seller}
use Rattle.law.specs.Law.{Alike, seller_events, calls, answers, cramped}
use Rattle.law.proofs.Steps.{step_ok}
use Rattle.law.proofs.Twins.{all_said, SameLedger, Twins}
use Rattle.law.proofs.SameAnswers.{step_both}
use Rattle.law.proofs.MovesAside.{ledger_stays, history_stays}

module _ {K R : Type 0} (number : K → ℕ) where
  -- A seller event: the store that it meets has the history and the ledger that `start` has, the store that the last one
  -- left.
  record Sale (start : Store K R) (T : History R) (ev : Event K R) : Type 0 where
    met : Store K R
    after : Store K R
    whole : Whole number met T
    ledger : SameLedger number met start
    by : by_seller ev.call ≡ true
    step : Step number met ev.call ev.answer after

  -- seller events one after another, with any other calls between
  unfoldable Sales : Store K R → History R → List (Event K R) → Type 0
  Sales start T [] = Unit {0}
  Sales start T (ev ∷ evs) = (x : Sale start T ev) × Sales x.after (feed number T ev.call ev.answer) evs

  -- the seller events of a run are such
  sales : (es : List (Event K R)) (start σ τ : Store K R) (T : History R) → Whole number σ T → SameLedger number σ start
      → Runs number σ es τ → Sales start T (seller_events es)
  unfolding Runs Sales kept
  sales [] start σ τ T w l r = tt
  sales (ev ∷ es) start σ τ T w l r =
      let stepped = step_ok number σ r.0 T ev.call ev.answer w r.1 in
      elim (cases_Bool (by_seller ev.call)) [
        | inl sells ↦
            rw sells (
              record { met = σ; after = r.0; whole = w; ledger = l; by = sells; step = r.1 },
              sales es r.0 r.0 τ _ stepped (refl, refl) r.2,
            )
        | inr moves ↦
            let whole : Whole number r.0 T = rw (history_stays number T ev.call ev.answer moves) at stepped in
            let left = ledger_stays number σ ev.call ev.answer r.0 moves r.1 in
            let stays : SameLedger number r.0 σ = (left.0, ap (all_said number) left.1) in
            rw moves (sales es start r.0 τ T whole (stays.0 ∙ l.0, stays.1 ∙ l.1) r.2)
      ]

  -- one event of each, with the same call, neither refused for want of room
  one_sale : (σ τ : Store K R) (T : History R) (x y : Event K R) → SameLedger number σ τ → (s : Sale σ T x) (t : Sale τ T y)
      → x.call ≡ y.call → cramped x.answer ≡ false → cramped y.answer ≡ false
      → (x.answer ≡ y.answer) × SameLedger number s.after t.after
  one_sale σ τ T x y l s t c p q =
      let twins : Twins number s.met t.met T = record {
        here = s.whole;
        there = t.whole;
        ledger = (s.ledger.0 ∙ (l.0 ∙ sym t.ledger.0), s.ledger.1 ∙ (l.1 ∙ sym t.ledger.1));
      } in
      let same : Step number t.met x.call y.answer t.after =
      subst (λ z. Step number t.met z y.answer t.after) (sym c) t.step in
      (step_both number twins x.call s.by x.answer y.answer s.after t.after s.step same).unless_cramped p q

  -- all of them, up to the first that is refused so
  all_sales : (xs ys : List (Event K R)) (σ τ : Store K R) (T : History R) → SameLedger number σ τ → Sales σ T xs → Sales τ T ys
      → calls xs ≡ calls ys → (n : ℕ) → any cramped (answers (take n xs)) ≡ false → any cramped (answers (take n ys)) ≡ false
      → answers (take n xs) ≡ answers (take n ys)
  unfolding Sales any
  all_sales [] [] σ τ T l s t c n p q = refl
  all_sales [] (y ∷ ys) σ τ T l s t c n p q = absurd cc
  all_sales (x ∷ xs) [] σ τ T l s t c n p q = absurd cc
  all_sales (x ∷ xs) (y ∷ ys) σ τ T l s t c zero p q = refl
  all_sales (x ∷ xs) (y ∷ ys) σ τ T l s t c (suc n) p q =
      let call : x.call ≡ y.call = cc in
      let others : calls xs ≡ calls ys = cc in
      let roomy = or_parts (cramped x.answer) _ p in
      let roomy_too = or_parts (cramped y.answer) _ q in
      let this = one_sale σ τ T x y l s.0 t.0 call roomy.0 roomy_too.0 in
      let fed : feed number T y.call y.answer ≡ feed number T x.call x.answer = rw (call, this.0) in
      let later : Sales t.0.after (feed number T x.call x.answer) ys = subst (λ z. Sales t.0.after z ys) fed t.1 in
      let rest = all_sales xs ys s.0.after t.0.after _ this.1 s.1 later others n roomy.1 roomy_too.1 in
      ap (λ z. z ∷ answers (take n xs)) this.0 ∙ ap (λ z. y.answer ∷ z) rest

pub alike : (K R : Type 0) (number : K → ℕ) → Alike K R number
alike K R number o p es fs σ τ serves serves_too clock lines r q same n h g =
    let T : History R = fresh o.clock in
    let here : Whole number (at_opening o) T =
    whole_opened number o.lengths o.clock o.last_tag o.limit o.admits serves in
    let there : Whole number (at_opening p) T =
    rw clock (whole_opened number p.lengths p.clock p.last_tag p.limit p.admits serves_too) in
    all_sales number (seller_events es) (seller_events fs) (at_opening o) (at_opening p) T (lines, refl)
    (sales number es (at_opening o) (at_opening o) σ T here (refl, refl) r)
    (sales number fs (at_opening p) (at_opening p) τ T there (refl, refl) q) same n h g
