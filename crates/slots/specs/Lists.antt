-- Words for lists: searching, keeping, changing the first that passes a test.
use Rattle.std.specs.Prelude.{ℕ, zero, suc, ◌+◌, ◌-◌, min, Bool, true, false, cond, ◌||◌, List, [], ◌∷◌, ◌++◌, Some, None, filter, Option, nat_lt}
use Rattle.slots.specs.declared.hit.Hit.{Hit}

-- the list of one element
abbrev pub one : {X : Type 0} → X → List X
one x = x ∷ []

-- does an element pass
unfoldable pub any : {X : Type 0} → (X → Bool) → List X → Bool
any p [] = false
any p (x ∷ xs) = p x || any p xs

-- the first element that passes
unfoldable pub first : {X : Type 0} → (X → Bool) → List X → Option X
first p [] = None
first p (x ∷ xs) = cond (p x) (Some x) (first p xs)

-- the first element that passes, with its place counted from i
unfoldable pub hit_from : {X : Type 0} → (X → Bool) → ℕ → List X → Option (Hit X)
hit_from p i [] = None
hit_from p i (x ∷ xs) = cond (p x) (Some (record { at = i; it = x })) (hit_from p (i + 1) xs)

-- the first element that passes, with its place
abbrev pub hit : {X : Type 0} → (X → Bool) → List X → Option (Hit X)
hit p xs = hit_from p 0 xs

-- those that pass, in their order
unfoldable pub kept : {X : Type 0} → (X → Bool) → List X → List X
kept p xs = filter p xs

-- what f gives for each element, joined: no element takes it out, one keeps or changes it
unfoldable pub each : {X Y : Type 0} → (X → List Y) → List X → List Y
each f [] = []
each f (x ∷ xs) = f x ++ each f xs

-- what f gives in place of the first element that passes: nothing takes it out, one sets it
unfoldable pub at_first : {X : Type 0} → (X → Bool) → (X → List X) → List X → List X
at_first p f [] = []
at_first p f (x ∷ xs) = cond (p x) (f x ++ xs) (x ∷ at_first p f xs)

-- the element at a place, changed
unfoldable pub changed_at : {X : Type 0} → ℕ → (X → X) → List X → List X
changed_at i f [] = []
changed_at zero f (x ∷ xs) = f x ∷ xs
changed_at (suc i) f (x ∷ xs) = x ∷ changed_at i f xs

-- the element where the test says so
abbrev pub one_if : {X : Type 0} → Bool → X → List X
one_if true x = x ∷ []
one_if false x = []

-- what an option holds, as a list
abbrev pub list_of : {X : Type 0} → Option X → List X
list_of None = []
list_of (Some x) = x ∷ []

-- A table of `used` slots in a slice of `room` slots. x at the end of its list, where a slot is left
abbrev pub appended : {X : Type 0} → ℕ → ℕ → X → List X → List X
appended room used x xs = cond (nat_lt used room) (xs ++ one x) xs

-- how many slots are used once one more element is put at the end: no more where no slot is left
abbrev pub count_with : ℕ → ℕ → ℕ
count_with room used = cond (nat_lt used room) (used + 1) used

-- how many slots are used once the element at a place is taken out: no fewer where none stands there
abbrev pub count_without : ℕ → ℕ → ℕ → ℕ
count_without room used at = cond (nat_lt at (min used room)) (min used room - 1) (min used room)
