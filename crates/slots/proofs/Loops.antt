-- The steps of the loops.
use Rattle.std.proofs.Common.{◌≡◌, ℕ, suc, ◌+◌, ◌-◌, ◌<◌, ◌≤◌, min, Bool, true, false, List, ◌∷◌, ◌++◌, map, length, get_or, take, drop, set, Some, None, Option, sym, ap, ◌∙◌, arith}
use Rattle.std.specs.List.{remove, copy_within}
use Rattle.std.proofs.lemmas.List.{append-nil, at_drop_more, at_drop_all, drop_all, get_or_default, length-map, length-take-le, take_all, take_at, take-take, drop-take, length-drop}
use Rattle.std.proofs.lemmas.Bool.{cond-true, cond-false}
use Rattle.std.proofs.lemmas.List.Edits.{map_over_more, take-paste}
use Rattle.std.proofs.lemmas.List.Filters.{FiltersInPlace}
use Rattle.slots.specs.declared.hit.Hit.{Hit}
use Rattle.slots.specs.Lists.{hit_from, kept}
use Rattle.slots.proofs.Slots.{take_min}

-- A search of a list that has come to i: what is left gives the answer.
module _ {X : Type 0} (p : X → Bool) (xs : List X) (i : ℕ) {goal : Option (Hit X)} (inv : hit_from p i (drop i xs) ≡ goal) where
  -- the element at i, as what is left begins with it
  next : (x : X) → i < length xs → x ≡ get_or xs i x → hit_from p i (x ∷ drop (i + 1) xs) ≡ goal
  next x h r = ap (λ z. hit_from p i (z ∷ drop (i + 1) xs)) r ∙ sym (at_drop_more (hit_from p i) xs i x h) ∙ inv

  pub seek_here : (x : X) → i < length xs → x ≡ get_or xs i x → true ≡ p x → Some (record { at = i; it = x }) ≡ goal
  unfolding hit_from
  seek_here x h r t = sym (cond-true _ _ (hit_from p (i + 1) (drop (i + 1) xs)) (sym t)) ∙ next x h r

  pub seek_more : (x : X) → i < length xs → x ≡ get_or xs i x → false ≡ p x → hit_from p (i + 1) (drop (i + 1) xs) ≡ goal
  unfolding hit_from
  seek_more x h r t = sym (cond-false _ (Some (record { at = i; it = x })) _ (sym t)) ∙ next x h r

  pub seek_all : length xs ≤ i → None ≡ goal
  unfolding hit_from
  seek_all h = sym (at_drop_all (hit_from p i) xs i h) ∙ inv

-- A change of each element that has come to i.
module _ {X : Type 0} (f : X → X) (xs ys : List X) (i : ℕ) (inv : ys ≡ map f (take i xs) ++ drop i xs) where
  pub edit_more : (d x : X) → i < length ys → length ys ≡ length xs → x ≡ f (get_or ys i d)
      → set ys i x ≡ map f (take (i + 1) xs) ++ drop (i + 1) xs
  edit_more d x h l e = ap (set ys i) e ∙ map_over_more f xs ys i (get_or ys i d) (omega arith) inv (get_or_default ys i d (get_or ys i d) h)

  pub edit_all : (n : ℕ) → length ys ≡ length xs → i ≡ min n (length xs) → take n ys ≡ map f (take n xs)
  edit_all n l e =
      let k : length (map f (take i xs)) ≡ i = length-map (take i xs) f ∙ length-take-le i xs (omega arith) in
      let m : min n (length ys) ≡ i = omega arith in
      sym (take_min n ys) ∙ ap (λ z. take z ys) m ∙ ap (take i) inv ∙ take_at (map f (take i xs)) (drop i xs) i k
      ∙ ap (λ z. map f (take z xs)) e ∙ ap (map f) (take_min n xs)

-- A filter in place that has come to the end.
pub kept_all : {X : Type 0} {p : X → Bool} {xs ys : List X} {k i : ℕ} (n : ℕ) → FiltersInPlace p xs ys k i
    → i ≡ min n (length xs) → take k ys ≡ kept p (take n xs)
unfolding kept
kept_all {X} {p} {xs} n c e = c.front ∙ ap (λ j. kept p (take j xs)) e ∙ ap (kept p) (take_min n xs)

-- The elements from a place on, moved over the one before them.
pub closed_up : {X : Type 0} (xs : List X) (at end : ℕ) → at < end → end ≤ length xs
    → take (end - 1) (copy_within xs (at + 1) end at) ≡ remove (take end xs) at
closed_up xs at end h l =
    let n = end - (at + 1) in
    let rest = drop (at + 1) xs in
    let long : n ≤ length rest = simp length-drop (omega arith) in
    let last : end - 1 ≡ at + n = omega arith in
    let whole : end ≡ (at + 1) + n = omega arith in
    let after : at + 1 ≡ suc at = omega arith in
    ap (λ z. take z (copy_within xs (at + 1) end at)) last ∙ take-paste xs at rest n (omega arith) long
    ∙ ap (λ z. take at xs ++ z) (sym (drop-take (at + 1) n xs)) ∙ ap (λ z. take at xs ++ drop (at + 1) (take z xs)) (sym whole)
    ∙ ap (λ z. take at xs ++ drop z (take end xs)) after
    ∙ ap (λ z. z ++ drop (suc at) (take end xs)) (sym (take-take at end xs (omega arith)))

pub removed_past : {X : Type 0} (xs : List X) (at : ℕ) → length xs ≤ at → remove xs at ≡ xs
removed_past xs at h = rw (take_all at xs h, drop_all (suc at) xs (omega arith)) (append-nil xs)
