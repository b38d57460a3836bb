-- The place of the first element that passes.
use Rattle.std.proofs.Common.{◌≡◌, ℕ, suc, ◌+◌, Bool, true, false, cond, ltb, List, [], ◌∷◌, length, Some, None, option_map, position, sym, refl, ap, ◌∙◌, inl, inr, arith}
use Rattle.std.specs.List.{remove, position_or_len}
use Rattle.std.proofs.lemmas.Bool.{cases_Bool, cases_lt, lt-ltb, le-ltb}
use Rattle.slots.specs.declared.hit.Hit.{Hit}
use Rattle.slots.specs.Lists.{hit_from, hit, first, any, at_first, one, changed_at}

one_more : (n : ℕ) → 1 + n ≡ suc n
one_more n = omega arith

ltb_more : (n m : ℕ) → ltb n m ≡ ltb (1 + n) (suc m)
ltb_more n m = elim (cases_lt n m) [
  | inl h ↦ lt-ltb n m h ∙ sym (lt-ltb (1 + n) (suc m) (omega arith))
  | inr h ↦ le-ltb n m h ∙ sym (le-ltb (1 + n) (suc m) (omega arith))
]

module _ {X : Type 0} (p : X → Bool) where
  -- the element found is the first that passes
  first_from : (i : ℕ) (xs : List X) → option_map (λ h. h.it) (hit_from p i xs) ≡ first p xs
  unfolding hit_from first
  first_from i [] = refl
  first_from i (x ∷ xs) = let r = first_from (i + 1) xs in elim (cases_Bool (p x)) [ inl e ↦ rw e | inr e ↦ rw e r ]

  pub hit_is_first : (xs : List X) → option_map (λ h. h.it) (hit p xs) ≡ first p xs
  hit_is_first xs = first_from 0 xs

  place_from : (i : ℕ) (xs : List X) (h : Hit X) → hit_from p i xs ≡ Some h → h.at ≡ i + position_or_len p xs
  unfolding hit_from
  place_from i [] h q = absurd (let z : ◌≡◌ {A = ℕ} 0 1 = cc in omega arith)
  place_from i (x ∷ xs) h q = elim (cases_Bool (p x)) [
    | inl e ↦ let z = rw e at q in let same : i ≡ h.at = cc in rw e (omega arith)
    | inr e ↦ let r = place_from (i + 1) xs h (rw e at q) in rw e (omega arith)
  ]

  pub hit_place : (xs : List X) (h : Hit X) → hit p xs ≡ Some h → h.at ≡ position_or_len p xs
  hit_place xs h q = let r = place_from 0 xs h q in omega arith

  -- an edit at that place is an edit of the first that passes; where none passes, of nothing
  pub place_changed : (f : X → X) (xs : List X) → changed_at (position_or_len p xs) f xs ≡ at_first p (λ x. one (f x)) xs
  unfolding changed_at at_first
  place_changed f [] = refl
  place_changed f (x ∷ xs) = let i = place_changed f xs in elim (cases_Bool (p x)) [
    | inl e ↦ rw e
    | inr e ↦ rw (e, one_more (position_or_len p xs)) (ap (λ z. x ∷ z) i)
  ]

  pub place_removed : (xs : List X) → remove xs (position_or_len p xs) ≡ at_first p (λ x. []) xs
  unfolding at_first
  place_removed [] = refl
  place_removed (x ∷ xs) = let i = place_removed xs in elim (cases_Bool (p x)) [
    | inl e ↦ rw e
    | inr e ↦ rw (e, one_more (position_or_len p xs)) (ap (λ z. x ∷ z) i)
  ]

  -- there is a place where one passes
  pub any_place : (xs : List X) → any p xs ≡ ltb (position_or_len p xs) (length xs)
  unfolding any
  any_place [] = refl
  any_place (x ∷ xs) = let i = any_place xs in elim (cases_Bool (p x)) [
    | inl e ↦ rw e (sym (lt-ltb 0 (suc (length xs)) (omega arith)))
    | inr e ↦ rw e (i ∙ ltb_more (position_or_len p xs) (length xs))
  ]

  -- what an answer that names the place says
  pub placed_some : (xs : List X) (i : ℕ) → Some i ≡ position p xs → (any p xs ≡ true) × (i ≡ position_or_len p xs)
  placed_some xs i h = go (ltb (position_or_len p xs) (length xs)) (any_place xs) h
    where
      go : (b : Bool) → any p xs ≡ b → Some i ≡ cond b (Some (position_or_len p xs)) None → (any p xs ≡ true) × (i ≡ position_or_len p xs)
      go true e h = (e, cc)
      go false e h = absurd (let z : ◌≡◌ {A = ℕ} 0 1 = cc in omega arith)

  pub placed_none : (xs : List X) → None ≡ position p xs → any p xs ≡ false
  placed_none xs h = go (ltb (position_or_len p xs) (length xs)) (any_place xs) h
    where
      go : (b : Bool) → any p xs ≡ b → None ≡ cond b (Some (position_or_len p xs)) None → any p xs ≡ false
      go true e h = absurd (let z : ◌≡◌ {A = ℕ} 0 1 = cc in omega arith)
      go false e h = e
