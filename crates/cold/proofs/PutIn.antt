-- One entry put in where the order has it. No order is assumed but where it is said.
use Rattle.std.proofs.Common.{◌≡◌, ℕ, suc, ◌+◌, Bool, true, false, cond, not, ◌&&◌, ◌||◌, eqb, List, [], ◌∷◌, length, filter, sym, refl, ap, ◌∙◌, arith}
use Rattle.std.specs.List.{insert}
use Rattle.std.proofs.Math.Numerals.{one-add}
use Rattle.std.proofs.lemmas.Bool.{and_parts, and_from, or_parts, or_from, cond-true, cond-false, not_from_true, not_from_false}
use Rattle.std.proofs.lemmas.Bool.Decides.{nat_tests}
use Rattle.cold.specs.Lists.{all, any, rise}
use Rattle.cold.specs.Cold.{Entry, before, in_order, is_of, is_there, put_in, removed_after}
use Rattle.cold.specs.Sorted.{place}
use Rattle.cold.proofs.Lists.{all_none, all_more}

module _ {R : Type 0} where
  pub put_in_is : (e : Entry R) (es : List (Entry R)) → insert es (place e.number e.tag es) e ≡ put_in e es
  unfolding put_in
  put_in_is e [] = refl
  put_in_is e (x ∷ xs) = go (before x e) (put_in_is e xs)
    where
      go : (t : Bool) → insert xs (place e.number e.tag xs) e ≡ put_in e xs
          → insert (x ∷ xs) (cond t (1 + place e.number e.tag xs) 0) e ≡ cond t (x ∷ put_in e xs) (e ∷ (x ∷ xs))
      go true i = rw one-add (ap (λ ys. x ∷ ys) i)
      go false i = refl

  pub length_put_in : (e : Entry R) (es : List (Entry R)) → length (put_in e es) ≡ suc (length es)
  unfolding put_in
  length_put_in e [] = refl
  length_put_in e (x ∷ xs) = go (before x e) (length_put_in e xs)
    where
      go : (t : Bool) → length (put_in e xs) ≡ suc (length xs) → length (cond t (x ∷ put_in e xs) (e ∷ (x ∷ xs))) ≡ suc (length (x ∷ xs))
      go true i = ap suc i
      go false i = refl

  -- two that differ go in in either order
  pub put_in_comm : (a b : Entry R) (es : List (Entry R)) → (eqb a.number b.number && eqb a.tag b.tag) ≡ false
      → put_in a (put_in b es) ≡ put_in b (put_in a es)
  unfolding put_in
  put_in_comm a b [] d = go (before b a) (before a b) refl refl
    where
      go : (p q : Bool) → before b a ≡ p → before a b ≡ q → cond p (b ∷ (a ∷ [])) (a ∷ (b ∷ [])) ≡ cond q (a ∷ (b ∷ [])) (b ∷ (a ∷ []))
      go true true f g = absurd (let z : ⊥ = grind (arith, nat_tests) in z)
      go true false f g = refl
      go false true f g = refl
      go false false f g = absurd (let z : ⊥ = grind (arith, nat_tests) in z)
  put_in_comm a b (x ∷ xs) d = go (before x a) (before x b) (before b a) (before a b) refl refl refl refl (put_in_comm a b xs d)
    where
      go : (p q r s : Bool) → before x a ≡ p → before x b ≡ q → before b a ≡ r → before a b ≡ s → put_in a (put_in b xs) ≡ put_in b (put_in a xs)
          → put_in a (cond q (x ∷ put_in b xs) (b ∷ (x ∷ xs))) ≡ put_in b (cond p (x ∷ put_in a xs) (a ∷ (x ∷ xs)))
      go true true r s f g h k i = rw (f, g) (ap (λ ys. x ∷ ys) i)
      go true false r s f g h k i = let z : before b a ≡ true = grind (arith, nat_tests) in rw (z, f, g) refl
      go false true r s f g h k i = let z : before a b ≡ true = grind (arith, nat_tests) in rw (z, f, g) refl
      go false false true true f g h k i = absurd (let z : ⊥ = grind (arith, nat_tests) in z)
      go false false true false f g h k i = rw (h, k, f) refl
      go false false false true f g h k i = rw (h, k, g) refl
      go false false false false f g h k i = absurd (let z : ⊥ = grind (arith, nat_tests) in z)

  all_put_in : (p : Entry R → Bool) (e : Entry R) (es : List (Entry R)) → all p (put_in e es) ≡ (p e && all p es)
  unfolding all put_in
  all_put_in p e [] = refl
  all_put_in p e (x ∷ xs) = go (before x e) (all_put_in p e xs)
    where
      swap : (a b c : Bool) → (a && (b && c)) ≡ (b && (a && c))
      swap true b c = refl
      swap false true c = refl
      swap false false c = refl

      go : (b : Bool) → all p (put_in e xs) ≡ (p e && all p xs) → all p (cond b (x ∷ put_in e xs) (e ∷ (x ∷ xs))) ≡ (p e && (p x && all p xs))
      go true i = rw i (swap (p x) (p e) (all p xs))
      go false i = refl

  pub any_put_in : (p : Entry R → Bool) (e : Entry R) (es : List (Entry R)) → any p (put_in e es) ≡ (p e || any p es)
  unfolding any put_in
  any_put_in p e [] = refl
  any_put_in p e (x ∷ xs) = go (before x e) (any_put_in p e xs)
    where
      swap : (a b c : Bool) → (a || (b || c)) ≡ (b || (a || c))
      swap true true c = refl
      swap true false c = refl
      swap false b c = refl

      go : (b : Bool) → any p (put_in e xs) ≡ (p e || any p xs) → any p (cond b (x ∷ put_in e xs) (e ∷ (x ∷ xs))) ≡ (p e || (p x || any p xs))
      go true i = rw i (swap (p x) (p e) (any p xs))
      go false i = refl

  -- what does not pass changes nothing of what is kept
  pub kept_put_in : (p : Entry R → Bool) (e : Entry R) (es : List (Entry R)) → p e ≡ false → filter p (put_in e es) ≡ filter p es
  unfolding put_in
  kept_put_in p e [] h = cond-false (p e) (e ∷ []) [] h
  kept_put_in p e (x ∷ xs) h = go (before x e) (kept_put_in p e xs h)
    where
      go : (b : Bool) → filter p (put_in e xs) ≡ filter p xs
          → filter p (cond b (x ∷ put_in e xs) (e ∷ (x ∷ xs))) ≡ cond (p x) (x ∷ filter p xs) (filter p xs)
      go true i = ap (λ ys. cond (p x) (x ∷ ys) ys) i
      go false i = cond-false (p e) _ _ h

  -- what is not there is not taken out
  pub removed_none : (n t : ℕ) (es : List (Entry R)) → is_there n t es ≡ false → removed_after es n t ≡ es
  unfolding any
  removed_none n t [] h = refl
  removed_none n t (x ∷ xs) h =
      let a = or_parts (is_of n t x) (is_there n t xs) h in
      cond-true (not (is_of n t x)) _ _ (not_from_false (is_of n t x) a.0) ∙ ap (λ ys. x ∷ ys) (removed_none n t xs a.1)

  -- what went in comes out
  pub removed_put_in : (n t : ℕ) (e : Entry R) (es : List (Entry R)) → is_of n t e ≡ true → is_there n t es ≡ false
      → removed_after (put_in e es) n t ≡ es
  removed_put_in n t e es h d = kept_put_in (λ x. not (is_of n t x)) e es (not_from_true (is_of n t e) h) ∙ removed_none n t es d

  -- one that is not there goes in, and the order stays
  pub order_put_in : (e : Entry R) (es : List (Entry R)) → in_order es ≡ true → is_there e.number e.tag es ≡ false
      → in_order (put_in e es) ≡ true
  unfolding any put_in rise all
  order_put_in e [] o h = refl
  order_put_in e (x ∷ xs) o h =
      let a = and_parts (all (before x) xs) (in_order xs) o in
      let d = or_parts (is_of e.number e.tag x) (is_there e.number e.tag xs) h in
      go (before x e) refl d.0 a.0 (order_put_in e xs a.1 d.1)
    where
      go : (b : Bool) → before x e ≡ b → is_of e.number e.tag x ≡ false → all (before x) xs ≡ true → in_order (put_in e xs) ≡ true
          → in_order (cond b (x ∷ put_in e xs) (e ∷ (x ∷ xs))) ≡ true
      go true f h al i =
          and_from (all (before x) (put_in e xs)) (in_order (put_in e xs))
          (all_put_in (before x) e xs ∙ and_from (before x e) (all (before x) xs) f al) i
      go false f h al i =
          let z : before e x ≡ true = grind (arith, nat_tests) in
          and_from (before e x && all (before e) xs) (in_order (x ∷ xs))
          (and_from (before e x) (all (before e) xs) z (all_more (before x) (before e) xs al (λ y w. grind (arith, nat_tests)))) o

  -- what is in order was so before the last went in, which was not there
  pub order_back : (e : Entry R) (es : List (Entry R)) → in_order (put_in e es) ≡ true
      → (in_order es ≡ true) × (is_there e.number e.tag es ≡ false)
  unfolding any put_in rise all
  order_back e [] o = (refl, refl)
  order_back e (x ∷ xs) o = go (before x e) refl o (order_back e xs)
    where
      go : (b : Bool) → before x e ≡ b → in_order (cond b (x ∷ put_in e xs) (e ∷ (x ∷ xs))) ≡ true
          → (in_order (put_in e xs) ≡ true → (in_order xs ≡ true) × (is_there e.number e.tag xs ≡ false))
          → ((all (before x) xs && in_order xs) ≡ true) × ((is_of e.number e.tag x || is_there e.number e.tag xs) ≡ false)
      go true f o i =
          let a = and_parts (all (before x) (put_in e xs)) (in_order (put_in e xs)) o in
          let b = i a.1 in
          let z : is_of e.number e.tag x ≡ false = grind (arith, nat_tests) in (
            and_from (all (before x) xs) (in_order xs) (and_parts (before x e) (all (before x) xs) (sym (all_put_in (before x) e xs) ∙ a.0)).1
                b.0,
            or_from (is_of e.number e.tag x) (is_there e.number e.tag xs) z b.1,
          )
      go false f o i =
          let a = and_parts (before e x && all (before e) xs) (all (before x) xs && in_order xs) o in
          let b = and_parts (before e x) (all (before e) xs) a.0 in
          let y : before e x ≡ true = b.0 in
          let z : is_of e.number e.tag x ≡ false = grind (arith, nat_tests) in (
            a.1,
            or_from (is_of e.number e.tag x) (is_there e.number e.tag xs) z
                (all_none (before e) (is_of e.number e.tag) xs b.1 (λ w k. grind (arith, nat_tests))),
          )
