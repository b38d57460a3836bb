-- What a filter and a fold see of an edit of the first element that passes a test.
use Rattle.std.proofs.Common.{◌≡◌, ℕ, ◌≤◌, Bool, true, false, cond, List, [], ◌∷◌, ◌++◌, length, Some, None, Option, sym, refl, ap, ◌∙◌, subst, inl, inr, append-nil, arith, length-append}
use Rattle.std.specs.List.{AllByRecursion as All}
use Rattle.std.proofs.ByRecursion.{kept_by_passes}
use Rattle.std.proofs.lemmas.Bool.{cases_Bool}
use Rattle.slots.specs.Lists.{first, at_first, kept, one, each, one_if}
use Rattle.slots.proofs.Folds.{all_front, all_back, each_append, kept_append, Spot}

module _ {X : Type 0} where
  -- what passes both, where all that passes the first passes the second
  pub kept_kept : (p q : X → Bool) (xs : List X) → All (λ x. q x ≡ true) (kept p xs) → kept p (kept q xs) ≡ kept p xs
  unfolding kept
  kept_kept p q [] a = refl
  kept_kept p q (x ∷ xs) a = elim (cases_Bool (p x)) [
    | inl e ↦ let b = rw e at a in rw (b.0, e) (ap (λ z. x ∷ z) (kept_kept p q xs b.1))
    | inr e ↦
        let ih = kept_kept p q xs (rw e at a) in
        elim (cases_Bool (q x)) [ inl t ↦ rw (t, e) ih | inr t ↦ rw (t, e) ih ]
  ]

  pub kept_passes : (p : X → Bool) (xs : List X) → All (λ x. p x ≡ true) (kept p xs)
  unfolding kept
  kept_passes p xs = kept_by_passes p xs

  pub kept_none : (p : X → Bool) (xs : List X) → All (λ x. p x ≡ false) xs → kept p xs ≡ []
  unfolding kept
  kept_none p [] a = refl
  kept_none p (x ∷ xs) a = rw a.0 (kept_none p xs a.1)

  pub none_kept : (p : X → Bool) (xs : List X) → kept p xs ≡ [] → All (λ x. p x ≡ false) xs
  unfolding kept
  none_kept p [] h = tt
  none_kept p (x ∷ xs) h = elim (cases_Bool (p x)) [
    | inl y ↦ absurd (let z : ◌≡◌ {A = ℕ} 0 1 = cc (rw y at h) in omega arith)
    | inr y ↦ (y, none_kept p xs (rw y at h))
  ]

  pub kept_one : (p : X → Bool) (x : X) → kept p (one x) ≡ one_if (p x) x
  unfolding kept
  kept_one p x = elim (p x) as (λ t. cond t (x ∷ []) [] ≡ one_if t x) [ true ↦ refl | false ↦ refl ]

  pub kept_hit : (p : X → Bool) (x : X) → p x ≡ true → kept p (one x) ≡ one x
  kept_hit p x t = kept_one p x ∙ ap (λ z. one_if z x) t

  pub kept_miss : (p : X → Bool) (x : X) → p x ≡ false → kept p (one x) ≡ []
  kept_miss p x t = kept_one p x ∙ ap (λ z. one_if z x) t

  unfoldable pub head : List X → Option X
  head [] = None
  head (x ∷ xs) = Some x

  pub first_kept : (p : X → Bool) (xs : List X) → first p xs ≡ head (kept p xs)
  unfolding first kept head
  first_kept p [] = refl
  first_kept p (x ∷ xs) = elim (cases_Bool (p x)) [ inl y ↦ rw y | inr y ↦ rw y (first_kept p xs) ]

  pub first_of_none : (p : X → Bool) (xs : List X) → kept p xs ≡ [] → first p xs ≡ None
  unfolding head
  first_of_none p xs h = first_kept p xs ∙ ap head h

  pub first_of_one : (p : X → Bool) (xs : List X) (x : X) → kept p xs ≡ one x → first p xs ≡ Some x
  unfolding head
  first_of_one p xs x h = first_kept p xs ∙ ap head h

  pub first_same : (p : X → Bool) (xs ys : List X) → kept p xs ≡ kept p ys → first p xs ≡ first p ys
  first_same p xs ys h = first_kept p xs ∙ (ap head h ∙ sym (first_kept p ys))

  few : (a z : List X) (x : X) → length (a ++ (x ∷ z)) ≤ 1 → (a ≡ []) × (z ≡ [])
  few [] [] x h = (refl, refl)
  few [] (w ∷ z) x h = absurd (omega arith)
  few (w ∷ a) z x h = absurd (omega (arith, simp length-append at h))

  -- an edit at a spot, seen by a filter
  module _ {p : X → Bool} {xs : List X} {x : X} (at : Spot p xs x) (q : X → Bool) where
    kept_parts : (ys : List X) → kept q (at.pre ++ (ys ++ at.post)) ≡ kept q at.pre ++ (kept q ys ++ kept q at.post)
    kept_parts ys = kept_append q at.pre (ys ++ at.post) ∙ ap (λ z. kept q at.pre ++ z) (kept_append q ys at.post)

    kept_is : kept q xs ≡ kept q at.pre ++ (kept q (one x) ++ kept q at.post)
    kept_is = ap (kept q) at.is ∙ kept_parts (one x)

    kept_edit : (f : X → List X) → kept q (at_first p f xs) ≡ kept q at.pre ++ (kept q (f x) ++ kept q at.post)
    kept_edit f = ap (kept q) (at.edit f) ∙ kept_parts (f x)

    -- nothing changes for the filter
    pub kept_calm : (f : X → List X) → kept q (f x) ≡ kept q (one x) → kept q (at_first p f xs) ≡ kept q xs
    kept_calm f h = kept_edit f ∙ (ap (λ z. kept q at.pre ++ (z ++ kept q at.post)) h ∙ sym kept_is)

    kept_mid : q x ≡ true → kept q xs ≡ kept q at.pre ++ (x ∷ kept q at.post)
    kept_mid t = kept_is ∙ ap (λ z. kept q at.pre ++ (z ++ kept q at.post)) (kept_hit q x t)

    -- the one that passes
    pub kept_lone : q x ≡ true → length (kept q xs) ≤ 1 → (kept q at.pre ≡ []) × (kept q at.post ≡ [])
    kept_lone t h = few (kept q at.pre) (kept q at.post) x (rw (kept_mid t) at h)

    pub kept_it : q x ≡ true → length (kept q xs) ≤ 1 → kept q xs ≡ one x
    kept_it t h = let l = kept_lone t h in kept_mid t ∙ rw (l.0, l.1)

    pub kept_change : (f : X → List X) → q x ≡ true → length (kept q xs) ≤ 1 → kept q (at_first p f xs) ≡ kept q (f x)
    kept_change f t h = let l = kept_lone t h in kept_edit f ∙ rw (l.0, l.1) (append-nil (kept q (f x)))

    pub kept_there : (A : Type 0) → q x ≡ true → kept q xs ≡ [] → A
    kept_there A t h = absurd (omega (arith, simp length-append at (ap length (sym (kept_mid t) ∙ h))))

    pub kept_new : (f : X → List X) → kept q xs ≡ [] → kept q (at_first p f xs) ≡ kept q (f x)
    kept_new f h =
        let m : All (λ y. q y ≡ false) (at.pre ++ (x ∷ at.post)) = subst (λ z. All (λ y. q y ≡ false) z) at.is (none_kept q xs h) in
        let a = kept_none q at.pre (all_front _ at.pre (x ∷ at.post) m) in
        let z = kept_none q at.post (all_back _ at.pre (x ∷ at.post) m).1 in
        kept_edit f ∙ rw (a, z) (append-nil (kept q (f x)))

  -- an edit at a spot, seen by a fold
  module _ {Y : Type 0} {p : X → Bool} {xs : List X} {x : X} (at : Spot p xs x) (g : X → List Y) where
    each_mid : (a : List X) (y : X) (z : List X) → each g (a ++ (y ∷ z)) ≡ each g a ++ (g y ++ each g z)
    unfolding each
    each_mid a y z = each_append g a (y ∷ z)

    pub each_is : each g xs ≡ each g at.pre ++ (g x ++ each g at.post)
    each_is = ap (each g) at.is ∙ each_mid at.pre x at.post

    pub each_set : (y : X) (f : X → List X) → f x ≡ one y → each g (at_first p f xs) ≡ each g at.pre ++ (g y ++ each g at.post)
    each_set y f h = ap (each g) (at.edit f ∙ ap (λ z. at.pre ++ (z ++ at.post)) h) ∙ each_mid at.pre y at.post

    pub each_out : (f : X → List X) → f x ≡ [] → each g (at_first p f xs) ≡ each g at.pre ++ each g at.post
    each_out f h = ap (each g) (at.edit f ∙ ap (λ z. at.pre ++ (z ++ at.post)) h) ∙ each_append g at.pre at.post

    pub each_calm : (y : X) (f : X → List X) → f x ≡ one y → g y ≡ g x → each g (at_first p f xs) ≡ each g xs
    each_calm y f h e = each_set y f h ∙ (ap (λ z. each g at.pre ++ (z ++ each g at.post)) e ∙ sym each_is)
