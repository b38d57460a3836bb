-- Laws of `rows` and `any` over lists of versions, and of options.
use Rattle.std.proofs.Common.{◌≡◌, Bool, true, false, List, [], ◌∷◌, ◌++◌, Some, None, Option, refl, ap, inl, inr, arith}
use Rattle.std.specs.List.{AllByRecursion as All}
use Rattle.std.proofs.lemmas.Bool.{cases_Bool}
use Rattle.slots.specs.Lists.{any, each, one_if}
use Rattle.slots.proofs.Folds.{all_then, each_append, each_same}
use Rattle.versions.proofs.Versions.{Version, rows}

-- an option that has no value is None
pub none_unless : {X : Type 0} (o : Option X) → ((x : X) → o ≡ Some x → ⊥) → o ≡ None
none_unless None f = refl
none_unless (Some x) f = absurd (f x refl)

-- a weaker test
pub any_weaker : {X : Type 0} (p q : X → Bool) (xs : List X)
    → ((x : X) → p x ≡ true → q x ≡ true) → any p xs ≡ true → any q xs ≡ true
unfolding any
any_weaker p q [] f h = h
any_weaker p q (x ∷ xs) f h = elim (cases_Bool (p x)) [
  | inl y ↦ let here = f x y in grind arith
  | inr y ↦ let later = any_weaker p q xs f (rw y at h) in grind arith
]

module _ {R : Type 0} where
  pub rows_append : (p : Version R → Bool) (xs ys : List (Version R)) → rows p (xs ++ ys) ≡ rows p xs ++ rows p ys
  rows_append p xs ys = each_append (λ v. one_if (p v) v.row) xs ys

  pub rows_same : (p q : Version R → Bool) (xs : List (Version R)) → All (λ v. p v ≡ q v) xs → rows p xs ≡ rows q xs
  rows_same p q xs h = each_same _ _ xs (all_then _ _ xs h (λ v e. ap (λ z. one_if z v.row) e))

  -- there are no rows where no version passes, and the other way round
  pub rows_none : (p : Version R → Bool) (xs : List (Version R)) → All (λ v. p v ≡ false) xs → rows p xs ≡ []
  unfolding each
  rows_none p [] h = refl
  rows_none p (v ∷ xs) h = rw h.0 (rows_none p xs h.1)

  pub none_rows : (p : Version R → Bool) (xs : List (Version R)) → rows p xs ≡ [] → All (λ v. p v ≡ false) xs
  unfolding each
  none_rows p [] h = tt
  none_rows p (v ∷ xs) h = elim (cases_Bool (p v)) [
    | inl y ↦ absurd (cc (rw y at h))
    | inr y ↦ (y, none_rows p xs (rw y at h))
  ]

  -- where there is a row, a version passes
  pub rows_any : (p : Version R → Bool) (xs : List (Version R)) (r : R) → rows p xs ≡ r ∷ [] → any p xs ≡ true
  unfolding any each
  rows_any p [] r h = absurd cc
  rows_any p (v ∷ xs) r h = elim (cases_Bool (p v)) [ inl y ↦ rw y | inr y ↦ rw y (rows_any p xs r (rw y at h)) ]
