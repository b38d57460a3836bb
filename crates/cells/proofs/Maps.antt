-- Lemmas on map and each, over lists of any element: what a filter, a search and a fold see of a list that is changed
-- element by element.
use Rattle.std.proofs.Common.{◌≡◌, Bool, true, false, cond, List, [], ◌∷◌, ◌++◌, map, refl, ap, ◌∙◌, inl, inr, option_map}
use mathlib.Core.List.{map-append}
use Rattle.std.specs.List.{AllByRecursion as All}
use Rattle.std.proofs.lemmas.Bool.{cases_Bool}
use Rattle.slots.specs.Lists.{first, kept, one, each, one_if}
use Rattle.slots.proofs.Folds.{kept_append}

-- map
pub map_each : {X Y Z : Type 0} (f : Y → Z) (g : X → List Y) (xs : List X)
    → map f (each g xs) ≡ each (λ x. map f (g x)) xs
unfolding each
map_each f g [] = refl
map_each f g (x ∷ xs) = map-append f (g x) (each g xs) ∙ ap (λ z. map f (g x) ++ z) (map_each f g xs)

pub map_one_if : {X Y : Type 0} (f : X → Y) (t : Bool) (x : X) → one_if t (f x) ≡ map f (one_if t x)
map_one_if f true x = refl
map_one_if f false x = refl

pub map_cond : {X Y : Type 0} (f : X → Y) (t : Bool) (xs : List X) → cond t (map f xs) [] ≡ map f (cond t xs [])
map_cond f true xs = refl
map_cond f false xs = refl

-- a change that a test does not see
pub kept_map : {X : Type 0} (p : X → Bool) (f : X → X) → ((x : X) → p (f x) ≡ p x) → (xs : List X)
    → kept p (map f xs) ≡ map f (kept p xs)
unfolding kept
kept_map p f e [] = refl
kept_map p f e (x ∷ xs) =
    let ih = kept_map p f e xs in
    elim (cases_Bool (p x)) [ inl y ↦ rw (e x, y) (ap (λ z. f x ∷ z) ih) | inr y ↦ rw (e x, y) ih ]

pub first_map : {X : Type 0} (p : X → Bool) (f : X → X) → ((x : X) → p (f x) ≡ p x) → (xs : List X)
    → first p (map f xs) ≡ option_map f (first p xs)
unfolding first
first_map p f e [] = refl
first_map p f e (x ∷ xs) =
    let ih = first_map p f e xs in
    elim (cases_Bool (p x)) [ inl y ↦ rw (e x, y) | inr y ↦ rw (e x, y) ih ]

-- each
pub each_cond : {X Y : Type 0} (f : X → List Y) (t : Bool) (xs : List X) → cond t (each f xs) [] ≡ each f (cond t xs [])
unfolding each
each_cond f true xs = refl
each_cond f false xs = refl

pub each_id : {X : Type 0} (f : X → List X) (xs : List X) → All (λ x. f x ≡ one x) xs → each f xs ≡ xs
unfolding each
each_id f [] a = refl
each_id f (x ∷ xs) a = rw a.0 (ap (λ z. x ∷ z) (each_id f xs a.1))

-- a change whose results pass a test as their element does
pub kept_each : {X : Type 0} (p : X → Bool) (f : X → List X)
    → ((x : X) → kept p (f x) ≡ cond (p x) (f x) []) → (xs : List X) → kept p (each f xs) ≡ each f (kept p xs)
unfolding kept each
kept_each p f e [] = refl
kept_each p f e (x ∷ xs) =
    let ih = kept_each p f e xs in
    kept_append p (f x) (each f xs)
    ∙ elim (cases_Bool (p x)) [ inl y ↦ rw (e x, y) (ap (λ z. f x ++ z) ih) | inr y ↦ rw (e x, y) ih ]

pub kept_unless : {X : Type 0} (p : X → Bool) (t u : Bool) (x : X) → p x ≡ u
    → kept p (cond t [] (one x)) ≡ cond u (cond t [] (one x)) []
unfolding kept
kept_unless p true true x h = refl
kept_unless p true false x h = refl
kept_unless p false true x h = rw h
kept_unless p false false x h = rw h

-- an element that goes where t, seen through g, is what f leaves of the one that g saw
pub each_unless : {X Y : Type 0} (g : X → List Y) (f : Y → List Y) (t q : Bool) (x : X) (v u : Y)
    → g x ≡ one_if q u → f v ≡ cond t [] (one u) → each g (cond t [] (one x)) ≡ each f (one_if q v)
unfolding each
each_unless g f true true x v u a c = rw c
each_unless g f true false x v u a c = refl
each_unless g f false true x v u a c = rw (a, c)
each_unless g f false false x v u a c = rw a
