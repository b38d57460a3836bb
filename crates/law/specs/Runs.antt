-- Runs of a store: from an opening, any calls in any number and order, served or refused.
use Rattle.std.specs.Prelude.{◌≡◌, ℕ, Bool, true, false, List, [], ◌∷◌, Some}
use Rattle.slots.specs.Lists.{first}
use Rattle.rules.specs.declared.answers.Call.{Call}
use Rattle.rules.specs.declared.answers.Call.TheVariants as call
use Rattle.rules.specs.declared.tables.HotRow.{HotRow}
use Rattle.rules.specs.Stores.{Store, Lengths}
use Rattle.rules.specs.Outcomes.{Told, Outcome}
use Rattle.rules.specs.Opening.{in_range, opened}
use Rattle.rules.specs.Selling.{begin_rule, read_rule, put_rule, drop_rule, commit_rule, abandon_rule}
use Rattle.rules.specs.Moving.{choose_rule, copy_rule, settle_rule, give_up_rule, sweep_rule, collect_rule, row_chosen, HasMore}

-- a call and its answer
pub record Event (K R : Type 0) : Type 0 where
  pub call : Call K R
  pub answer : Told R

abbrev pub answering : {K R : Type 0} → Told R → Store K R → Outcome K R
answering a τ = record { answer = a; after = τ }

module _ {K R : Type 0} (number : K → ℕ) where
  -- One call: answer and store after are what its rule says, with the tables of the opening lent. A copy leaves the
  -- filter with any set that an add of the row's key may leave.
  abbrev pub Step : Store K R → Call K R → Told R → Store K R → Type 0
  Step σ (call.Begin s m) a τ = begin_rule σ.lengths σ s m ≡ answering a τ
  Step σ (call.Read s k) a τ = read_rule number σ.lengths σ s k ≡ answering a τ
  Step σ (call.Put s k r) a τ = put_rule number σ.lengths σ s k r ≡ answering a τ
  Step σ (call.Drop s k) a τ = drop_rule number σ.lengths σ s k ≡ answering a τ
  Step σ (call.Commit s) a τ = commit_rule number σ.lengths σ s ≡ answering a τ
  Step σ (call.Abandon s) a τ = abandon_rule σ.lengths σ s ≡ answering a τ
  Step σ (call.Choose k) a τ = choose_rule number σ.lengths σ k ≡ answering a τ
  Step σ (call.Copy t) a τ =
      (new : ℕ → Bool)
      × ((h : HotRow K R) → first (row_chosen t) σ.hot ≡ Some h → HasMore (number h.key) σ.admits new)
      × (copy_rule number σ.lengths σ t new ≡ answering a τ)
  Step σ (call.Settle t) a τ = settle_rule number σ.lengths σ t ≡ answering a τ
  Step σ (call.GiveUp t) a τ = give_up_rule σ.lengths σ t ≡ answering a τ
  Step σ call.Sweep a τ = sweep_rule number σ.lengths σ ≡ answering a τ
  Step σ call.Collect a τ = collect_rule σ.lengths σ ≡ answering a τ

  -- one after another
  unfoldable pub Runs : Store K R → List (Event K R) → Store K R → Type 0
  Runs σ [] τ = σ ≡ τ
  Runs σ (ev ∷ evs) τ = (ρ : Store K R) × Step σ ev.call ev.answer ρ × Runs ρ evs τ

-- what a store is opened with: the numbers of the opening, and an empty cold store and a filter of any make
pub record Opening : Type 0 where
  pub lengths : Lengths
  pub clock : ℕ
  pub last_tag : ℕ
  pub limit : ℕ
  pub admits : ℕ → Bool

-- the opening is served
abbrev pub Served : Opening → Type 0
Served o = in_range o.lengths o.clock o.last_tag ≡ true

abbrev pub at_opening : {K R : Type 0} → Opening → Store K R
at_opening o = opened o.lengths o.clock o.last_tag [] o.limit o.admits

-- the calls of sellers
abbrev pub by_seller : {K R : Type 0} → Call K R → Bool
by_seller (call.Begin s m) = true
by_seller (call.Read s k) = true
by_seller (call.Put s k r) = true
by_seller (call.Drop s k) = true
by_seller (call.Commit s) = true
by_seller (call.Abandon s) = true
by_seller (call.Choose k) = false
by_seller (call.Copy t) = false
by_seller (call.Settle t) = false
by_seller (call.GiveUp t) = false
by_seller call.Sweep = false
by_seller call.Collect = false
