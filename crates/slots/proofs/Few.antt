-- Lists of at most one element, as an option gives them.
use Rattle.std.proofs.Common.{◌≡◌, ◌≤◌, List, [], ◌∷◌, ◌++◌, length, Some, None, Option, refl, ap, append-nil, arith, length-append}
use Rattle.slots.specs.Lists.{list_of}

module _ {R : Type 0} where
  length_list_of : (o : Option R) → length (list_of o) ≤ 1
  length_list_of None = omega arith
  length_list_of (Some r) = omega arith

  pub no_two : (r q : R) (rest : List R) (o : Option R) → r ∷ (q ∷ rest) ≡ list_of o → ⊥
  no_two r q rest o h = let e = ap length h in omega (arith, length_list_of o)

  nil_of : (xs : List R) → length xs ≤ 0 → xs ≡ []
  nil_of [] h = refl
  nil_of (x ∷ xs) h = absurd (omega arith)

  -- moving a part of a list of at most one element leaves the list as it is
  pub moved : (a x b y : List R) (o : Option R) → (a ++ (x ++ b)) ++ y ≡ list_of o → (a ++ b) ++ (x ++ y) ≡ list_of o
  moved a [] b y o h = h
  moved [] (r ∷ x) b y o h =
      let n : length b ≤ 0 = omega (arith, length_list_of o, simp length-append at (ap length h)) in
      rw (nil_of b n) (rw (nil_of b n, append-nil x) at h)
  moved (p ∷ a) (r ∷ x) b y o h = absurd (omega (arith, length_list_of o, simp length-append at (ap length h)))
