-- The used part of a slice, and what a write to one slot is to it.
use Rattle.std.proofs.Common.{◌≡◌, ℕ, zero, suc, ◌+◌, ◌-◌, ◌<◌, ◌≤◌, min, ltb, List, [], ◌∷◌, ◌++◌, length, get_or, take, set, sym, refl, ap, ◌∙◌, inl, inr, arith}
use Rattle.std.proofs.lemmas.List.{take_all}
use Rattle.std.proofs.lemmas.Bool.{cases_lt, lt-ltb, le-ltb, cond-true, cond-false}
use Rattle.slots.specs.Lists.{one, changed_at, appended, count_with, count_without}

-- a count beyond the slice's length means all of the slice
pub take_min : {X : Type 0} (n : ℕ) (xs : List X) → take (min n (length xs)) xs ≡ take n xs
take_min n xs = elim (cases_lt n (length xs)) [
  | inl h ↦ let e : min n (length xs) ≡ n = omega arith in rw e
  | inr h ↦ let e : min n (length xs) ≡ length xs = omega arith in rw e (take_all (length xs) xs (omega arith) ∙ sym (take_all n xs h))
]

module _ {X : Type 0} (f : X → X) where
  pub set_changed : (i : ℕ) (xs : List X) (d : X) → set xs i (f (get_or xs i d)) ≡ changed_at i f xs
  unfolding changed_at
  set_changed i [] d = refl
  set_changed zero (x ∷ xs) d = refl
  set_changed (suc i) (x ∷ xs) d = ap (λ ys. x ∷ ys) (set_changed i xs d)

  pub take_changed : (n i : ℕ) (xs : List X) → take n (changed_at i f xs) ≡ changed_at i f (take n xs)
  unfolding changed_at
  take_changed zero i xs = refl
  take_changed (suc n) i [] = refl
  take_changed (suc n) zero (x ∷ xs) = refl
  take_changed (suc n) (suc i) (x ∷ xs) = ap (λ ys. x ∷ ys) (take_changed n i xs)

  -- one element of the used part, written through a loan
  pub changed_used : (n i : ℕ) (xs : List X) (d x : X) → x ≡ f (get_or xs i d) → take n (set xs i x) ≡ changed_at i f (take n xs)
  changed_used n i xs d x e = ap (λ z. take n (set xs i z)) e ∙ ap (take n) (set_changed i xs d) ∙ take_changed n i xs

  pub changed_past : (i : ℕ) (xs : List X) → length xs ≤ i → changed_at i f xs ≡ xs
  unfolding changed_at
  changed_past i [] h = refl
  changed_past zero (x ∷ xs) h = absurd (omega arith)
  changed_past (suc i) (x ∷ xs) h = ap (λ ys. x ∷ ys) (changed_past i xs (omega arith))

-- an element put at the end: there is a slot for it, or nothing changes
module _ (room used : ℕ) where
  pub appended_more : {X : Type 0} (x : X) (xs : List X) → used < room → appended room used x xs ≡ xs ++ one x
  appended_more x xs h = cond-true (ltb used room) _ _ (lt-ltb used room h)

  pub appended_full : {X : Type 0} (x : X) (xs : List X) → room ≤ used → appended room used x xs ≡ xs
  appended_full x xs h = cond-false (ltb used room) _ _ (le-ltb used room h)

  pub count_with_more : used < room → count_with room used ≡ used + 1
  count_with_more h = cond-true (ltb used room) _ _ (lt-ltb used room h)

  pub count_with_full : room ≤ used → count_with room used ≡ used
  count_with_full h = cond-false (ltb used room) _ _ (le-ltb used room h)

-- an element taken out: one stands at the place, or nothing changes
module _ (room used at : ℕ) where
  pub count_without_less : at < min used room → count_without room used at ≡ min used room - 1
  count_without_less h = cond-true (ltb at (min used room)) _ _ (lt-ltb at (min used room) h)

  pub count_without_none : min used room ≤ at → count_without room used at ≡ min used room
  count_without_none h = cond-false (ltb at (min used room)) _ _ (le-ltb at (min used room) h)

  -- in a table whose count is within its slice
  pub count_without_used : at < used → used ≤ room → count_without room used at ≡ used - 1
  count_without_used h k = let e = count_without_less (omega arith) in omega arith
