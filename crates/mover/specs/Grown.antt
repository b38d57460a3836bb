-- What a copy may do to the filter's set: where a row is marked chosen with the tag, it gains the row's key number, may gain others,
-- and loses none; otherwise it is as it was.
use Rattle.std.specs.Prelude.{◌≡◌, ℕ, Bool, cond, Some, None, Option}
use Rattle.slots.specs.Lists.{first}
use Rattle.rules.specs.declared.tables.HotRow.{HotRow}
use Rattle.rules.specs.Stores.{Store, Lengths, same_lengths}
use Rattle.rules.specs.Moving.{row_chosen, HasMore}

module _ {K R : Type 0} (number : K → ℕ) where
  abbrev pub GrownBy : Option (HotRow K R) → (ℕ → Bool) → (ℕ → Bool) → Type 0
  GrownBy None old new = new ≡ old
  GrownBy (Some h) old new = HasMore (number h.key) old new

  -- the row whose move goes on; none where the lent lengths are not the opening's
  abbrev pub copied_row : Lengths → Store K R → ℕ → Option (HotRow K R)
  copied_row lent σ tag = cond (same_lengths lent σ.lengths) (first (row_chosen tag) σ.hot) None

  abbrev pub Grown : Lengths → Store K R → ℕ → (ℕ → Bool) → Type 0
  Grown lent σ tag admits = GrownBy (copied_row lent σ tag) σ.admits admits
