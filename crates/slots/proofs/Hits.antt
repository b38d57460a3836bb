-- What a search's answer, a place and an element, says of the list.
use Rattle.std.proofs.Common.{◌≡◌, ℕ, ◌+◌, ◌<◌, Bool, true, List, [], ◌∷◌, ◌++◌, length, take, is_some, Some, None, sym, refl, ap, ◌∙◌, subst, inl, inr, arith}
use Rattle.std.specs.List.{remove}
use Rattle.std.proofs.lemmas.List.{length-append, length-take}
use Rattle.std.proofs.lemmas.Bool.{cases_Bool}
use Rattle.slots.specs.declared.hit.Hit.{Hit}
use Rattle.slots.specs.Lists.{hit_from, hit, first, any, at_first, one, changed_at}
use Rattle.slots.proofs.Folds.{Spot, spot_here, spot_later}

module _ {X : Type 0} (p : X → Bool) where
  any_from : (i : ℕ) (xs : List X) → is_some (hit_from p i xs) ≡ any p xs
  unfolding hit_from any
  any_from i [] = refl
  any_from i (x ∷ xs) = let ih = any_from (i + 1) xs in elim (cases_Bool (p x)) [ inl e ↦ rw e | inr e ↦ rw e ih ]

  -- a search finds one where one passes
  pub hit_any : (xs : List X) → is_some (hit p xs) ≡ any p xs
  hit_any xs = any_from 0 xs

  none_from : (i : ℕ) (xs : List X) → hit_from p i xs ≡ None → first p xs ≡ None
  unfolding hit_from first
  none_from i [] q = refl
  none_from i (x ∷ xs) q = elim (cases_Bool (p x)) [
    | inl e ↦ absurd (let z : ◌≡◌ {A = ℕ} 0 1 = cc (rw e at q) in omega arith)
    | inr e ↦ rw e (none_from (i + 1) xs (rw e at q))
  ]

  pub hit_none : (xs : List X) → hit p xs ≡ None → first p xs ≡ None
  hit_none xs q = none_from 0 xs q

  first_from : (i : ℕ) (xs : List X) (h : Hit X) → hit_from p i xs ≡ Some h → first p xs ≡ Some h.it
  unfolding hit_from first
  first_from i [] h q = absurd (let z : ◌≡◌ {A = ℕ} 0 1 = cc in omega arith)
  first_from i (x ∷ xs) h q = elim (cases_Bool (p x)) [
    | inl e ↦ let z = rw e at q in rw e (cc)
    | inr e ↦ rw e (first_from (i + 1) xs h (rw e at q))
  ]

  -- the element found is the first that passes
  pub hit_first : (xs : List X) (h : Hit X) → hit p xs ≡ Some h → first p xs ≡ Some h.it
  hit_first xs h q = first_from 0 xs h q

  spot_from : (i : ℕ) (xs : List X) (h : Hit X) → hit_from p i xs ≡ Some h → (s : Spot p xs h.it) × (h.at ≡ i + length s.pre)
  unfolding hit_from spot_here spot_later
  spot_from i [] h q = absurd (let z : ◌≡◌ {A = ℕ} 0 1 = cc in omega arith)
  spot_from i (x ∷ xs) h q = elim (cases_Bool (p x)) [
    | inl e ↦ let z = rw e at q in let same : record { at = i; it = x } ≡ h = cc in
        subst (λ k. (s : Spot p (x ∷ xs) k.it) × (k.at ≡ i + length s.pre)) same (spot_here p xs x e, omega arith)
    | inr e ↦ let r = spot_from (i + 1) xs h (rw e at q) in (spot_later p xs h.it x e r.0, omega (arith, r.1))
  ]

  -- where it stands: as many elements before it as its place says
  pub hit_spot : (xs : List X) (h : Hit X) → hit p xs ≡ Some h → (s : Spot p xs h.it) × (length s.pre ≡ h.at)
  hit_spot xs h q = let r = spot_from 0 xs h q in (r.0, omega (arith, r.1))

  pub hit_passes : (xs : List X) (h : Hit X) → hit p xs ≡ Some h → p h.it ≡ true
  hit_passes xs h q = (hit_spot xs h q).0.passes

  pub hit_below : (xs : List X) (h : Hit X) → hit p xs ≡ Some h → h.at < length xs
  hit_below xs h q = let r = hit_spot xs h q in omega (arith, r.1, simp length-append at (ap length r.0.is))

  -- a place found in a table is below its count, and below its slice's length
  pub hit_used : (used : ℕ) (xs : List X) (h : Hit X) → hit p (take used xs) ≡ Some h → (h.at < used) × (h.at < length xs)
  hit_used used xs h q = let b = simp length-take at (hit_below (take used xs) h q) in (omega arith, omega arith)

module _ {X : Type 0} where
  changed_mid : (f : X → X) (pre : List X) (x : X) (post : List X) → changed_at (length pre) f (pre ++ x ∷ post) ≡ pre ++ f x ∷ post
  unfolding changed_at
  changed_mid f [] x post = refl
  changed_mid f (y ∷ pre) x post = ap (λ z. y ∷ z) (changed_mid f pre x post)

  removed_mid : (pre : List X) (x : X) (post : List X) → remove (pre ++ x ∷ post) (length pre) ≡ pre ++ post
  removed_mid [] x post = refl
  removed_mid (y ∷ pre) x post = ap (λ z. y ∷ z) (removed_mid pre x post)

  -- an edit at the place found is an edit of the first that passes
  module _ (p : X → Bool) (xs : List X) (h : Hit X) (q : hit p xs ≡ Some h) where
    pub hit_changed : (f : X → X) → changed_at h.at f xs ≡ at_first p (λ x. one (f x)) xs
    hit_changed f =
        let r = hit_spot p xs h q in
        let s = r.0 in
        ap (λ n. changed_at n f xs) (sym r.1) ∙ ap (changed_at (length s.pre) f) s.is
        ∙ changed_mid f s.pre h.it s.post ∙ sym (s.edit (λ x. one (f x)))

    pub hit_removed : remove xs h.at ≡ at_first p (λ x. []) xs
    hit_removed =
        let r = hit_spot p xs h q in
        let s = r.0 in
        ap (remove xs) (sym r.1) ∙ ap (λ z. remove z (length s.pre)) s.is
        ∙ removed_mid s.pre h.it s.post ∙ sym (s.edit (λ x. []))
