-- Words on lists.
use Rattle.std.specs.Prelude.{ℕ, zero, suc, Bool, true, ◌&&◌, List, [], ◌∷◌}
unfoldable pub use Rattle.slots.specs.Lists.{any}

-- every element passes
unfoldable pub all : {X : Type 0} → (X → Bool) → List X → Bool
all p [] = true
all p (x ∷ xs) = p x && all p xs

-- each element comes before all that follow
unfoldable pub rise : {X : Type 0} → (X → X → Bool) → List X → Bool
rise b [] = true
rise b (x ∷ xs) = all (b x) xs && rise b xs

-- f of the element at a place, or n where there is none
unfoldable pub nth : {X Y : Type 0} → List X → ℕ → Y → (X → Y) → Y
nth [] i n f = n
nth (x ∷ xs) zero n f = f x
nth (x ∷ xs) (suc i) n f = nth xs i n f
