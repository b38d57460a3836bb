-- What a filter and a fold see of the cold list after an entry is put in, and after a cell's entries are removed.
use Rattle.std.proofs.Common.{◌≡◌, ℕ, Bool, true, false, cond, not, ◌||◌, List, [], ◌∷◌, ◌++◌, refl, ap, ◌∙◌, inl, inr, arith}
use Rattle.std.proofs.lemmas.Bool.{both_ways, cases_Bool, true_from_ne_false}
use Rattle.std.proofs.lemmas.Bool.Decides.{nat_tests}
use Rattle.cold.specs.Cold.{Entry, before, is_of, put_in, removed_after}
use Rattle.slots.specs.Lists.{any, each, kept, one}
use Rattle.slots.proofs.Folds.{all_then, each_kept}
use Rattle.slots.proofs.Edits.{kept_kept, kept_none, kept_passes, none_kept}
use Rattle.cells.proofs.Found.{none_of_kept}
use Rattle.cells.proofs.OneCell.{SameElsewhere}

module _ {R : Type 0} where
  -- put in
  pub kept_put_miss : (q : Entry R → Bool) (c : Entry R) (xs : List (Entry R)) → q c ≡ false → kept q (put_in c xs) ≡ kept q xs
  unfolding kept put_in
  kept_put_miss q c [] h = rw h
  kept_put_miss q c (x ∷ xs) h = elim (cases_Bool (before x c)) [
    | inl y ↦ rw y (ap (λ z. cond (q x) (x ∷ z) z) (kept_put_miss q c xs h))
    | inr y ↦ rw (y, h)
  ]

  pub kept_put_hit : (q : Entry R → Bool) (c : Entry R) (xs : List (Entry R))
      → q c ≡ true → kept q xs ≡ [] → kept q (put_in c xs) ≡ one c
  unfolding kept put_in
  kept_put_hit q c [] h g = rw h
  kept_put_hit q c (x ∷ xs) h g = let none = none_kept q (x ∷ xs) g in elim (cases_Bool (before x c)) [
    | inl y ↦ rw (y, none.0) (kept_put_hit q c xs h (kept_none q xs none.1))
    | inr y ↦ rw (y, h) (ap (λ z. c ∷ z) g)
  ]

  pub each_put : {Y : Type 0} (g : Entry R → List Y) (c : Entry R) (xs : List (Entry R)) → g c ≡ [] → each g (put_in c xs) ≡ each g xs
  unfolding each put_in
  each_put g c [] h = rw h
  each_put g c (x ∷ xs) h = elim (cases_Bool (before x c)) [
    | inl y ↦ rw y (ap (λ z. g x ++ z) (each_put g c xs h))
    | inr y ↦ rw (y, h)
  ]

  pub any_put : (q : Entry R → Bool) (c : Entry R) (xs : List (Entry R)) → any q (put_in c xs) ≡ (q c || any q xs)
  unfolding any put_in
  any_put q c [] = refl
  any_put q c (x ∷ xs) = let ih = any_put q c xs in elim (cases_Bool (before x c)) [
    | inl y ↦ rw y (rw ih (grind arith))
    | inr y ↦ rw y
  ]

  -- removed: all but the entries of one cell are kept
  removed_is : (xs : List (Entry R)) (i j : ℕ) → removed_after xs i j ≡ kept (λ c. not (is_of i j c)) xs
  unfolding kept
  removed_is xs i j = refl

  none_stays : (p : Entry R → Bool) (xs : List (Entry R)) → kept p (kept (λ c. not (p c)) xs) ≡ []
  unfolding kept
  none_stays p [] = refl
  none_stays p (x ∷ xs) = elim (cases_Bool (p x)) [ inl y ↦ rw y (none_stays p xs) | inr y ↦ rw (y, y) (none_stays p xs) ]

  pub removed_here : (xs : List (Entry R)) (i j : ℕ) → kept (is_of i j) (removed_after xs i j) ≡ []
  removed_here xs i j = ap (kept (is_of i j)) (removed_is xs i j) ∙ none_stays (is_of i j) xs

  pub removed_elsewhere : (xs : List (Entry R)) (i j : ℕ) → SameElsewhere is_of xs (removed_after xs i j) i j
  removed_elsewhere xs i j k t p =
      ap (kept (is_of k t)) (removed_is xs i j)
      ∙ kept_kept (is_of k t) (λ c. not (is_of i j c)) xs
      (all_then _ _ (kept (is_of k t) xs) (kept_passes (is_of k t) xs) (λ c q. stays c q))
    where
      stays : (c : Entry R) → is_of k t c ≡ true → not (is_of i j c) ≡ true
      stays c q = grind (arith, nat_tests)

  any_kept : (p q : Entry R → Bool) (xs : List (Entry R)) → any q (kept p xs) ≡ true → any q xs ≡ true
  any_kept p q xs h = true_from_ne_false (any q xs) (λ none. both_ways _ (none_of_kept q p xs none) h)

  pub any_removed : (q : Entry R → Bool) (xs : List (Entry R)) (i j : ℕ) → any q (removed_after xs i j) ≡ true → any q xs ≡ true
  any_removed q xs i j h = any_kept (λ c. not (is_of i j c)) q xs (rw (removed_is xs i j) at h)

  pub each_removed : {Y : Type 0} (g : Entry R → List Y) (xs : List (Entry R)) (i j : ℕ)
      → each g (removed_after xs i j) ≡ each (λ c. cond (not (is_of i j c)) (g c) []) xs
  each_removed g xs i j = ap (each g) (removed_is xs i j) ∙ each_kept g (λ c. not (is_of i j c)) xs
