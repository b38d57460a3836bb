-- What a caller of any store may use: facts on the entries alone.
use Rattle.std.proofs.Common.{◌≡◌, ℕ, ◌+◌, ◌≤◌, Bool, true, false, cond, not, ◌&&◌, eqb, leb, List, [], ◌∷◌, length, Ok, Err, sym, refl, ap, ◌∙◌, arith}
use Rattle.std.proofs.lemmas.Bool.{and_parts, cond-true, cond-false, eq-eqb, ne_eqb}
use Rattle.std.proofs.lemmas.Bool.Decides.{nat_tests}
use Rattle.cold.specs.Lists.{all, rise}
use Rattle.cold.specs.Cold.{Entry, before, in_order, is_of, is_there, put_in, put_answer, put_after, removed_after, is_own, own, first_of, found}
use Rattle.cold.specs.declared.store.ColdRefusal.TheVariants.{There, Full}
use Rattle.cold.proofs.Lists.{kept_same, kept_first, length_kept, rise_kept, any_kept, any_same, any_none}
use Rattle.cold.proofs.PutIn.{order_put_in, kept_put_in}

-- an empty store is in order
pub order_none : {R : Type 0} (es : List (Entry R)) → es ≡ [] → in_order es ≡ true
unfolding rise
order_none es e = ap in_order e

module _ {R : Type 0} where
  -- the order stays
  pub order_put : (limit n t : ℕ) (r : R) (es : List (Entry R)) → in_order es ≡ true → in_order (put_after limit es n t r) ≡ true
  order_put limit n t r es o = go (is_there n t es) (eqb (length es) limit) refl
    where
      go : (b q : Bool) → is_there n t es ≡ b → in_order (cond b es (cond q es (put_in (record { number = n; tag = t; row = r }) es))) ≡ true
      go true q e = o
      go false true e = o
      go false false e = order_put_in (record { number = n; tag = t; row = r }) es o e

  pub order_removed : (n t : ℕ) (es : List (Entry R)) → in_order es ≡ true → in_order (removed_after es n t) ≡ true
  order_removed n t es o = rise_kept before (λ e. not (is_of n t e)) es o

  -- what is there after a removal
  pub there_removed : (n t : ℕ) (es : List (Entry R)) → is_there n t (removed_after es n t) ≡ false
  there_removed n t es = any_kept (λ e. not (is_of n t e)) (is_of n t) es ∙ any_none _ es (λ e. never (is_of n t e))
    where
      never : (b : Bool) → (not b && b) ≡ false
      never true = refl
      never false = refl

  pub there_removed_other : (n t m s : ℕ) (es : List (Entry R)) → (eqb m n && eqb s t) ≡ false → is_there m s (removed_after es n t) ≡ is_there m s es
  there_removed_other n t m s es h = any_kept (λ e. not (is_of n t e)) (is_of m s) es ∙ any_same _ (is_of m s) es (λ e. grind (arith, nat_tests))

  pub length_removed : (n t : ℕ) (es : List (Entry R)) → length (removed_after es n t) ≤ length es
  length_removed n t es = length_kept (λ e. not (is_of n t e)) es

  -- the key's own entries
  pub length_own : (n t : ℕ) (es : List (Entry R)) → length (own n t es) ≤ length es
  length_own n t es = length_kept (is_own n t) es

  pub found_own : (n t : ℕ) (es : List (Entry R)) → found es n t ≡ first_of (own n t es)
  found_own n t es = refl

  -- past the first, they are those above its tag
  pub own_next : (n t : ℕ) (es rest : List (Entry R)) (y : Entry R) → in_order es ≡ true → own n t es ≡ y ∷ rest → rest ≡ own n (y.tag + 1) es
  unfolding rise
  own_next n t [] rest y o e = absurd (let z : ◌≡◌ {A = ℕ} 0 1 = cc in let w : ⊥ = omega arith in w)
  own_next n t (x ∷ es) rest y o e =
      let a = and_parts (all (before x) es) (in_order es) o in
      go (is_own n t x) refl a.0 e (own_next n t es rest y a.1) (kept_first (is_own n t) es rest y)
    where
      go : (b : Bool) → is_own n t x ≡ b → all (before x) es ≡ true → cond b (x ∷ own n t es) (own n t es) ≡ y ∷ rest
          → (own n t es ≡ y ∷ rest → rest ≡ own n (y.tag + 1) es) → (own n t es ≡ y ∷ rest → is_own n t y ≡ true)
          → rest ≡ cond (is_own n (y.tag + 1) x) (x ∷ own n (y.tag + 1) es) (own n (y.tag + 1) es)
      go true h al e i m =
          let w : x ≡ y = cc in
          let v : own n t es ≡ rest = cc in
          let k : own n t es ≡ own n (x.tag + 1) es = kept_same (before x) (is_own n t) (is_own n (x.tag + 1)) es al
          (λ z s. grind (arith, nat_tests)) in
          let u : is_own n (x.tag + 1) x ≡ false = grind (arith, nat_tests) in
          sym v ∙ k ∙ sym (cond-false _ (x ∷ own n (x.tag + 1) es) _ u)
          ∙ ap (λ (z : Entry R). cond (is_own n (z.tag + 1) x) (x ∷ own n (z.tag + 1) es) (own n (z.tag + 1) es)) w
      go false h al e i m =
          let p = m e in
          let u : is_own n (y.tag + 1) x ≡ false = grind (arith, nat_tests) in
          i e ∙ sym (cond-false _ (x ∷ own n (y.tag + 1) es) _ u)

  -- another key's entries stay
  pub own_put_other : (limit n t m s : ℕ) (r : R) (es : List (Entry R)) → eqb n m ≡ false → own m s (put_after limit es n t r) ≡ own m s es
  own_put_other limit n t m s r es h = go (is_there n t es) (eqb (length es) limit)
    where
      go : (b q : Bool) → own m s (cond b es (cond q es (put_in (record { number = n; tag = t; row = r }) es))) ≡ own m s es
      go true q = refl
      go false true = refl
      go false false = kept_put_in (is_own m s) (record { number = n; tag = t; row = r }) es
          (let z : (eqb n m && leb s t) ≡ false = grind (arith, nat_tests) in z)

  pub own_removed_other : (n t m s : ℕ) (es : List (Entry R)) → eqb n m ≡ false → own m s (removed_after es n t) ≡ own m s es
  own_removed_other n t m s [] h = refl
  own_removed_other n t m s (x ∷ xs) h = go (is_of n t x) (is_own m s x) refl refl (own_removed_other n t m s xs h)
    where
      go : (b q : Bool) → is_of n t x ≡ b → is_own m s x ≡ q → own m s (removed_after xs n t) ≡ own m s xs
          → own m s (cond (not b) (x ∷ removed_after xs n t) (removed_after xs n t)) ≡ cond q (x ∷ own m s xs) (own m s xs)
      go true true f g i = absurd (let z : ⊥ = grind (arith, nat_tests) in z)
      go true false f g i = i
      go false q f g i = ap (λ b. cond b (x ∷ own m s (removed_after xs n t)) (own m s (removed_after xs n t))) g ∙ ap (λ ys. cond q (x ∷ ys) ys) i

-- what a put answers and leaves, by what is there and how many
module _ {R : Type 0} (limit : ℕ) (es : List (Entry R)) (n t : ℕ) (r : R) where
  pub put_there : is_there n t es ≡ true → (put_answer limit es n t ≡ Err There) × (put_after limit es n t r ≡ es)
  put_there e = (cond-true _ (Err There) _ e, cond-true _ es _ e)

  pub put_full : is_there n t es ≡ false → length es ≡ limit → (put_answer limit es n t ≡ Err (Full (length es))) × (put_after limit es n t r ≡ es)
  put_full e f =
      let q : eqb (length es) limit ≡ true = eq-eqb (length es) limit f in
      (cond-false _ (Err There) _ e ∙ cond-true _ (Err (Full (length es))) (Ok tt) q, cond-false _ es _ e ∙ cond-true _ es _ q)

  pub put_done : is_there n t es ≡ false → (length es ≡ limit → ⊥)
      → (put_answer limit es n t ≡ Ok tt) × (put_after limit es n t r ≡ put_in (record { number = n; tag = t; row = r }) es)
  put_done e f =
      let q : eqb (length es) limit ≡ false = ne_eqb (length es) limit f in
      (cond-false _ (Err There) _ e ∙ cond-false _ (Err (Full (length es))) (Ok tt) q, cond-false _ es _ e ∙ cond-false _ es _ q)
