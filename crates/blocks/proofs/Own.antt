-- What a find answers, by the blocks of a key.
use Rattle.std.proofs.Common.{◌≡◌, ℕ, zero, suc, ◌<◌, ◌≤◌, Bool, true, false, cond, ◌&&◌, ◌⊎◌, inl, inr, ⊎_elim, List, [], ◌∷◌, map, length, get_or, filter, Some, None, refl, ap, sym, ◌∙◌, subst, arith}
use Rattle.std.specs.List.{All, Any, count_by}
use Rattle.std.proofs.lemmas.Bool.{and_parts, and_from, cond-true}
use Rattle.std.proofs.lemmas.Bool.Decides.{nat_tests}
use Rattle.std.proofs.lemmas.List.Sums.{length-filter}
use Rattle.cold.specs.Lists.{all, rise}
use Rattle.cold.specs.Cold.{Entry, before, in_order, is_own, own, put_in, told, first_of, found}
use Rattle.blocks.specs.Blocks.{is_used, number_of, tag_of, part, has_own}
use Rattle.blocks.specs.Cells.{cell, with_cell, gathered}

module _ {X : Type 0} where
  -- x is an element
  abbrev pub In : X → List X → Type 0
  In x [] = ⊥
  In x (y ∷ ys) = (x ≡ y) ⊎ In x ys

  in_at : (xs : List X) (k : ℕ) (d : X) → k < length xs → In (get_or xs k d) xs
  in_at [] k d h = absurd (let z : ⊥ = omega arith in z)
  in_at (x ∷ xs) zero d h = inl refl
  in_at (x ∷ xs) (suc k) d h = inr (in_at xs k d (omega arith))

  pub in_any : (x : X) (xs : List X) → Any (λ y. y ≡ x) xs → In x xs
  in_any x xs (k, y, h, e, f) = subst (λ z. In z xs) (e ∙ f) (in_at xs k y h)

  pub in_all : (P : X → Type 0) (x : X) (xs : List X) → All P xs → In x xs → P x
  in_all P x [] a i = absurd i
  in_all P x (y ∷ ys) a (inl e) = subst P (sym e) (a 0 y (omega arith))
  in_all P x (y ∷ ys) a (inr i) = in_all P x ys (λ k d h. a (suc k) d (omega arith)) i

  all_in : (p : X → Bool) (x : X) (xs : List X) → all p xs ≡ true → In x xs → p x ≡ true
  unfolding all
  all_in p x [] a i = absurd i
  all_in p x (y ∷ ys) a (inl e) = ap p e ∙ (and_parts (p y) (all p ys) a).0
  all_in p x (y ∷ ys) a (inr i) = all_in p x ys (and_parts (p y) (all p ys) a).1 i

  none_kept : (p : X → Bool) (x : X) (xs : List X) → length (filter p xs) ≡ 0 → In x xs → p x ≡ false
  none_kept p x [] e i = absurd i
  none_kept p x (y ∷ ys) e i = go (p y) refl e i (none_kept p x ys)
    where
      go : (b : Bool) → p y ≡ b → length (cond b (y ∷ filter p ys) (filter p ys)) ≡ 0 → In x (y ∷ ys) → (length (filter p ys) ≡ 0 → In x ys → p x ≡ false)
          → p x ≡ false
      go true f e i r = absurd (let z : ⊥ = omega arith in z)
      go false f e (inl g) r = ap p g ∙ f
      go false f e (inr j) r = r e j

  pub none_in : (p : X → Bool) (x : X) (xs : List X) → count_by p xs ≡ 0 → In x xs → p x ≡ false
  none_in p x xs e i = none_kept p x xs (length-filter p xs ∙ e) i

module _ {R : Type 0} where
  in_new : (y e : Entry R) (es : List (Entry R)) → (y ≡ e) ⊎ In y es → In y (put_in e es)
  unfolding put_in
  in_new y e [] i = i
  in_new y e (x ∷ xs) i = go (before x e) i (in_new y e xs)
    where
      go : (b : Bool) → (y ≡ e) ⊎ In y (x ∷ xs) → ((y ≡ e) ⊎ In y xs → In y (put_in e xs)) → In y (cond b (x ∷ put_in e xs) (e ∷ (x ∷ xs)))
      go true (inl g) r = inr (r (inl g))
      go true (inr (inl g)) r = inl g
      go true (inr (inr j)) r = inr (r (inr j))
      go false i r = i

  in_old : (y e : Entry R) (es : List (Entry R)) → In y (put_in e es) → (y ≡ e) ⊎ In y es
  unfolding put_in
  in_old y e [] i = i
  in_old y e (x ∷ xs) i = go (before x e) i (in_old y e xs)
    where
      go : (b : Bool) → In y (cond b (x ∷ put_in e xs) (e ∷ (x ∷ xs))) → (In y (put_in e xs) → (y ≡ e) ⊎ In y xs) → (y ≡ e) ⊎ In y (x ∷ xs)
      go true (inl g) r = inr (inl g)
      go true (inr j) r = ⊎_elim (λ (g : y ≡ e). inl g) (λ (k : In y xs). inr (inr k)) (r j)
      go false i r = i

  -- the key's own entry with the smallest tag is found
  pub found_least : (n t : ℕ) (e : Entry R) (es : List (Entry R)) → in_order es ≡ true → In e es → is_own n t e ≡ true
      → ((y : Entry R) → In y es → is_own n t y ≡ true → e.tag ≤ y.tag) → Some (told e) ≡ found es n t
  unfolding rise
  found_least n t e [] o i f h = absurd i
  found_least n t e (x ∷ xs) o i f h =
      let a = and_parts (all (before x) xs) (in_order xs) o in
      go (is_own n t x) refl i a.0 (λ j. found_least n t e xs a.1 j f (λ y k. h y (inr k)))
    where
      go : (b : Bool) → is_own n t x ≡ b → In e (x ∷ xs) → all (before x) xs ≡ true → (In e xs → Some (told e) ≡ found xs n t)
          → Some (told e) ≡ first_of (cond b (x ∷ own n t xs) (own n t xs))
      go true g (inl k) al r = ap (λ (z : Entry R). Some (told z)) k
      go true g (inr j) al r =
          let b = all_in (before x) e xs al j in
          let l = h x (inl refl) g in
          absurd (let z : ⊥ = grind (arith, nat_tests) in z)
      go false g (inl k) al r = absurd (let z : ⊥ = grind (arith, nat_tests) in z)
      go false g (inr j) al r = r j

  pub found_none : (n t : ℕ) (es : List (Entry R)) → ((y : Entry R) → In y es → is_own n t y ≡ false) → None ≡ found es n t
  found_none n t [] h = refl
  found_none n t (x ∷ xs) h = go (is_own n t x) refl (h x (inl refl)) (found_none n t xs (λ y i. h y (inr i)))
    where
      go : (b : Bool) → is_own n t x ≡ b → is_own n t x ≡ false → None ≡ found xs n t → None ≡ first_of (cond b (x ∷ own n t xs) (own n t xs))
      go true f e r = absurd (let z : ⊥ = cc in z)
      go false f e r = r

  module _ (unpacked : List ℕ → R) where
    abbrev pub said : List ℕ → Entry R
    said b = record { number = number_of b; tag = tag_of b; row = unpacked (part 16 16 b) }

    in_gathered : (b : List ℕ) (bs : List (List ℕ)) → In b bs → is_used b ≡ true → In (said b) (gathered (map (cell unpacked) bs))
    unfolding gathered
    in_gathered b [] i u = absurd i
    in_gathered b (x ∷ xs) (inl e) u =
        let c : cell unpacked x ≡ Some (said x) = cond-true (is_used x) (Some (said x)) None (sym (ap is_used e) ∙ u) in
        subst (λ d. In (said b) (with_cell d (gathered (map (cell unpacked) xs)))) (sym c)
        (in_new (said b) (said x) (gathered (map (cell unpacked) xs)) (inl (ap said e)))
    in_gathered b (x ∷ xs) (inr j) u = go (is_used x) (in_gathered b xs j u)
      where
        go : (v : Bool) → In (said b) (gathered (map (cell unpacked) xs))
            → In (said b) (with_cell (cond v (Some (said x)) None) (gathered (map (cell unpacked) xs)))
        go true k = in_new (said b) (said x) (gathered (map (cell unpacked) xs)) (inr k)
        go false k = k

    abbrev Behind : Entry R → List (List ℕ) → Type 0
    Behind y bs = (b : List ℕ) × In b bs × (is_used b ≡ true) × (y ≡ said b)

    behind : (y : Entry R) (bs : List (List ℕ)) → In y (gathered (map (cell unpacked) bs)) → Behind y bs
    unfolding gathered
    behind y [] i = absurd i
    behind y (x ∷ xs) i = go (is_used x) refl i (behind y xs)
      where
        further : Behind y xs → Behind y (x ∷ xs)
        further (b, j, u, e) = (b, inr j, u, e)

        go : (v : Bool) → is_used x ≡ v → In y (with_cell (cond v (Some (said x)) None) (gathered (map (cell unpacked) xs)))
            → (In y (gathered (map (cell unpacked) xs)) → Behind y xs) → Behind y (x ∷ xs)
        go true u i r = ⊎_elim (λ (e : y ≡ said x). (x, inl refl, u, e)) (λ (j : In y (gathered (map (cell unpacked) xs))). further (r j))
            (in_old y (said x) (gathered (map (cell unpacked) xs)) i)
        go false u i r = further (r i)

    module _ (n t : ℕ) (bs : List (List ℕ)) where
      -- the block of a key with the smallest tag tells what is found
      pub found_block : (b : List ℕ) → in_order (gathered (map (cell unpacked) bs)) ≡ true → Any (λ c. c ≡ b) bs → has_own n t b ≡ true
          → All (λ c. has_own n t c ≡ true → tag_of b ≤ tag_of c) bs → Some (told (said b)) ≡ found (gathered (map (cell unpacked) bs)) n t
      found_block b o a f l =
          let i = in_any b bs a in
          let p = and_parts (is_used b) (is_own n t (said b)) f in
          found_least n t (said b) (gathered (map (cell unpacked) bs)) o (in_gathered b bs i p.0) p.1
          (λ y j g.
          let k = behind y bs j in
          let q = subst (λ (z : Entry R). is_own n t z ≡ true) k.3 g in
          let m = in_all (λ c. has_own n t c ≡ true → tag_of b ≤ tag_of c) k.0 bs l k.1 (and_from (is_used k.0) (is_own n t (said k.0)) k.2 q) in
          subst (λ (z : Entry R). tag_of b ≤ z.tag) (sym k.3) m)

      pub no_block : count_by (has_own n t) bs ≡ 0 → None ≡ found (gathered (map (cell unpacked) bs)) n t
      no_block e = found_none n t (gathered (map (cell unpacked) bs)) (λ y j.
          let k = behind y bs j in
          let f = none_in (has_own n t) k.0 bs e k.1 in
          ap (is_own n t) k.3 ∙ ap (λ u. u && is_own n t (said k.0)) (sym k.2) ∙ f)
