-- General lemmas: what all elements of a list have, one that a search finds has; and what a search finds nowhere, no
-- element has.
use Rattle.std.proofs.Common.{◌≡◌, ℕ, Bool, true, false, ◌&&◌, eqb, List, [], ◌∷◌, Some, refl, subst}
use Rattle.std.specs.List.{AllByRecursion as All}
use Rattle.std.proofs.ByRecursion.{all_kept_by}
use Rattle.std.proofs.lemmas.Bool.{eq-eqb}
use Rattle.slots.specs.Lists.{first, any, kept, each}
use Rattle.slots.proofs.Folds.{none_all, all_none, all_front, all_back, spot, first_some}

-- an element found by a test has what all elements have
pub found_all : {X : Type 0} (P : X → Type 0) (p : X → Bool) (xs : List X) (x : X) → All P xs → first p xs ≡ Some x → P x
found_all P p xs x a g = let at = spot p xs x g in (all_back P at.pre (x ∷ at.post) (subst (All P) at.is a)).0

-- what all of a list has that was joined from parts, all of each part has
pub all_parts : {X Y : Type 0} (P : Y → Type 0) (f : X → List Y) (xs : List X) → All P (each f xs) → All (λ x. All P (f x)) xs
unfolding each
all_parts P f [] a = tt
all_parts P f (x ∷ xs) a = (all_front P (f x) (each f xs) a, all_parts P f xs (all_back P (f x) (each f xs) a))

-- no element passes where none can be found
pub none_found : {X : Type 0} (p : X → Bool) (xs : List X) → ((x : X) → first p xs ≡ Some x → ⊥) → any p xs ≡ false
none_found p xs f = go (any p xs) refl
  where
    go : (t : Bool) → any p xs ≡ t → t ≡ false
    go false is = refl
    go true is = let found = first_some p xs is in absurd (f found.0 found.1)

-- none of a part passes where none passes
pub none_of_kept : {X : Type 0} (p q : X → Bool) (xs : List X) → any p xs ≡ false → any p (kept q xs) ≡ false
unfolding kept
none_of_kept p q xs none = all_none p (kept q xs) (all_kept_by q _ xs (none_all p xs none))

-- no element passes where none of any key does
pub none_by_key : {X : Type 0} (key : X → ℕ) (p : X → Bool) (xs : List X)
    → ((k : ℕ) → any (λ x. eqb (key x) k && p x) xs ≡ false) → any p xs ≡ false
none_by_key key p xs none = none_found p xs (λ x found.
    let its = found_all (λ y. (eqb (key y) (key x) && p y) ≡ false) p xs x (none_all _ xs (none (key x))) found in
    let fails : p x ≡ false = rw (eq-eqb (key x) (key x) refl) at its in
    let passes = (spot p xs x found).passes in
    cc)
