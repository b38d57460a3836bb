-- Lemmas on the words of lists.
use Rattle.std.proofs.Common.{◌≡◌, ℕ, zero, suc, ◌+◌, ◌<◌, ◌≤◌, Bool, true, false, cond, ◌&&◌, ◌||◌, List, [], ◌∷◌, map, length, get_or, filter, sym, refl, ap, ◌∙◌, arith}
use Rattle.std.specs.List.{prefix_len}
use Rattle.std.proofs.lemmas.Bool.{and_parts, and_from, or_from, cond-false}
use Rattle.cold.specs.Lists.{all, any, rise, nth}

module _ {X : Type 0} where
  pub all_at : (p : X → Bool) (xs : List X) (i : ℕ) (d : X) → i < length xs → all p xs ≡ true → p (get_or xs i d) ≡ true
  unfolding all
  all_at p [] i d h e = absurd (let z : ⊥ = omega arith in z)
  all_at p (x ∷ xs) zero d h e = (and_parts (p x) (all p xs) e).0
  all_at p (x ∷ xs) (suc i) d h e = all_at p xs i d (omega arith) (and_parts (p x) (all p xs) e).1

  -- each place passes to its right
  pub rise_pair : (b : X → X → Bool) (xs : List X) (i j : ℕ) (d : X) → rise b xs ≡ true → i < j → j < length xs → b (get_or xs i d) (get_or xs j d) ≡ true
  unfolding rise
  rise_pair b [] i j d e h l = absurd (let z : ⊥ = omega arith in z)
  rise_pair b (x ∷ xs) i zero d e h l = absurd (let z : ⊥ = omega arith in z)
  rise_pair b (x ∷ xs) zero (suc j) d e h l = all_at (b x) xs j d (omega arith) (and_parts (all (b x) xs) (rise b xs) e).0
  rise_pair b (x ∷ xs) (suc i) (suc j) d e h l = rise_pair b xs i j d (and_parts (all (b x) xs) (rise b xs) e).1 (omega arith) (omega arith)

  pub nth_at : {Y : Type 0} (xs : List X) (i : ℕ) (n : Y) (f : X → Y) (d : X) → i < length xs → nth xs i n f ≡ f (get_or xs i d)
  unfolding nth
  nth_at [] i n f d h = absurd (let z : ⊥ = omega arith in z)
  nth_at (x ∷ xs) zero n f d h = refl
  nth_at (x ∷ xs) (suc i) n f d h = nth_at xs i n f d (omega arith)

  pub nth_past : {Y : Type 0} (xs : List X) (i : ℕ) (n : Y) (f : X → Y) → length xs ≤ i → nth xs i n f ≡ n
  unfolding nth
  nth_past [] i n f h = refl
  nth_past (x ∷ xs) zero n f h = absurd (let z : ⊥ = omega arith in z)
  nth_past (x ∷ xs) (suc i) n f h = nth_past xs i n f (omega arith)

pub prefix_map : {X Z : Type 0} (f : X → Z) (p : Z → Bool) (xs : List X) → prefix_len p (map f xs) ≡ prefix_len (λ x. p (f x)) xs
prefix_map f p [] = refl
prefix_map f p (x ∷ xs) = ap (λ n. cond (p (f x)) (1 + n) 0) (prefix_map f p xs)

pub nth_map : {X Y Z : Type 0} (g : X → Z) (xs : List X) (i : ℕ) (n : Y) (f : Z → Y) → nth (map g xs) i n f ≡ nth xs i n (λ x. f (g x))
unfolding nth
nth_map g [] i n f = refl
nth_map g (x ∷ xs) zero n f = refl
nth_map g (x ∷ xs) (suc i) n f = nth_map g xs i n f

pub all_map : {X Z : Type 0} (f : X → Z) (p : Z → Bool) (xs : List X) → all p (map f xs) ≡ all (λ x. p (f x)) xs
unfolding all
all_map f p [] = refl
all_map f p (x ∷ xs) = ap (λ t. p (f x) && t) (all_map f p xs)

pub rise_map : {X Z : Type 0} (f : X → Z) (b : Z → Z → Bool) (xs : List X) → rise b (map f xs) ≡ rise (λ x y. b (f x) (f y)) xs
unfolding rise
rise_map f b [] = refl
rise_map f b (x ∷ xs) = ap (λ t. t && rise b (map f xs)) (all_map f (b (f x)) xs) ∙ ap (λ t. all (λ y. b (f x) (f y)) xs && t) (rise_map f b xs)

-- what all elements pass, and so fail, none passes
pub all_none : {X : Type 0} (p q : X → Bool) (xs : List X) → all p xs ≡ true → ((z : X) → p z ≡ true → q z ≡ false) → any q xs ≡ false
unfolding all any
all_none p q [] h f = refl
all_none p q (x ∷ xs) h f = let a = and_parts (p x) (all p xs) h in or_from (q x) (any q xs) (f x a.0) (all_none p q xs a.1 f)

pub all_more : {X : Type 0} (p q : X → Bool) (xs : List X) → all p xs ≡ true → ((z : X) → p z ≡ true → q z ≡ true) → all q xs ≡ true
unfolding all
all_more p q [] h f = refl
all_more p q (x ∷ xs) h f = let a = and_parts (p x) (all p xs) h in and_from (q x) (all q xs) (f x a.0) (all_more p q xs a.1 f)

-- what is kept of a list whose elements all pass r
module _ {X : Type 0} (r p : X → Bool) where
  pub kept_same : (q : X → Bool) (xs : List X) → all r xs ≡ true → ((z : X) → r z ≡ true → p z ≡ q z) → filter p xs ≡ filter q xs
  unfolding all
  kept_same q [] h f = refl
  kept_same q (x ∷ xs) h f =
      let a = and_parts (r x) (all r xs) h in
      ap (λ b. cond b (x ∷ filter p xs) (filter p xs)) (f x a.0) ∙ ap (λ ys. cond (q x) (x ∷ ys) ys) (kept_same q xs a.1 f)

  pub kept_none : (xs : List X) → all r xs ≡ true → ((z : X) → r z ≡ true → p z ≡ false) → filter p xs ≡ []
  unfolding all
  kept_none [] h f = refl
  kept_none (x ∷ xs) h f = let a = and_parts (r x) (all r xs) h in cond-false (p x) _ _ (f x a.0) ∙ kept_none xs a.1 f

  pub all_kept : (xs : List X) → all r xs ≡ true → all r (filter p xs) ≡ true
  unfolding all
  all_kept [] h = refl
  all_kept (x ∷ xs) h = let a = and_parts (r x) (all r xs) h in go (p x) a.0 (all_kept xs a.1)
    where
      go : (t : Bool) → r x ≡ true → all r (filter p xs) ≡ true → all r (cond t (x ∷ filter p xs) (filter p xs)) ≡ true
      go true e i = and_from (r x) (all r (filter p xs)) e i
      go false e i = i

-- what is kept passes
pub kept_first : {X : Type 0} (p : X → Bool) (xs rest : List X) (y : X) → filter p xs ≡ y ∷ rest → p y ≡ true
kept_first p [] rest y e = absurd (let z : ◌≡◌ {A = ℕ} 0 1 = cc in let w : ⊥ = omega arith in w)
kept_first p (x ∷ xs) rest y e = go (p x) refl e (kept_first p xs rest y)
  where
    go : (t : Bool) → p x ≡ t → cond t (x ∷ filter p xs) (filter p xs) ≡ y ∷ rest → (filter p xs ≡ y ∷ rest → p y ≡ true) → p y ≡ true
    go true f e i = let z : x ≡ y = cc in ap p (sym z) ∙ f
    go false f e i = i e

pub length_kept : {X : Type 0} (p : X → Bool) (xs : List X) → length (filter p xs) ≤ length xs
length_kept p [] = omega arith
length_kept p (x ∷ xs) = go (p x) (length_kept p xs)
  where
    go : (t : Bool) → length (filter p xs) ≤ length xs → length (cond t (x ∷ filter p xs) (filter p xs)) ≤ suc (length xs)
    go true h = omega arith
    go false h = omega arith

pub rise_kept : {X : Type 0} (b : X → X → Bool) (p : X → Bool) (xs : List X) → rise b xs ≡ true → rise b (filter p xs) ≡ true
unfolding rise
rise_kept b p [] h = refl
rise_kept b p (x ∷ xs) h = let a = and_parts (all (b x) xs) (rise b xs) h in go (p x) (all_kept (b x) p xs a.0) (rise_kept b p xs a.1)
  where
    go : (t : Bool) → all (b x) (filter p xs) ≡ true → rise b (filter p xs) ≡ true → rise b (cond t (x ∷ filter p xs) (filter p xs)) ≡ true
    go true e i = and_from (all (b x) (filter p xs)) (rise b (filter p xs)) e i
    go false e i = i

-- some element passes q of those that pass p
pub any_kept : {X : Type 0} (p q : X → Bool) (xs : List X) → any q (filter p xs) ≡ any (λ x. p x && q x) xs
unfolding any
any_kept p q [] = refl
any_kept p q (x ∷ xs) = go (p x) (any_kept p q xs)
  where
    go : (t : Bool) → any q (filter p xs) ≡ any (λ x. p x && q x) xs
        → any q (cond t (x ∷ filter p xs) (filter p xs)) ≡ ((t && q x) || any (λ x. p x && q x) xs)
    go true i = ap (λ t. q x || t) i
    go false i = i

pub any_same : {X : Type 0} (p q : X → Bool) (xs : List X) → ((x : X) → p x ≡ q x) → any p xs ≡ any q xs
unfolding any
any_same p q [] h = refl
any_same p q (x ∷ xs) h = ap (λ t. t || any p xs) (h x) ∙ ap (λ t. q x || t) (any_same p q xs h)

pub any_none : {X : Type 0} (p : X → Bool) (xs : List X) → ((x : X) → p x ≡ false) → any p xs ≡ false
unfolding any
any_none p [] h = refl
any_none p (x ∷ xs) h = or_from (p x) (any p xs) (h x) (any_none p xs h)
