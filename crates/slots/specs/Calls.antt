-- What a closure that is passed in computes, by what its calls may give.
use Rattle.std.specs.Prelude.{◌≡◌, Bool}
use denote.Ref.{Bor, MutBor}

module _ {T : Type 0} where
  -- each call at a `&` to x answers p x
  abbrev pub Decides : (Bor T → Bool → Type 0) → (T → Bool) → Type 0
  Decides post p = (x : Bor T) (r : Bool) → post x r → r ≡ p x.now

  -- each call at a `&mut` to x leaves e x there
  abbrev pub Makes : (MutBor T → Unit {0} → MutBor T → Type 0) → (T → T) → Type 0
  Makes post e = (x y : MutBor T) → post x tt y → y.now ≡ e x.now
