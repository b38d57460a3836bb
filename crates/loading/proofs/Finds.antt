-- A key that was just loaded is found again.
use Rattle.std.proofs.Common.{◌≡◌, ℕ, Bool, true, false, cond, ◌&&◌, eqb, leb, List, [], ◌∷◌, length, Some, Ok, Err, filter, Option, sym, refl, ap, ◌∙◌, arith}
use Rattle.std.specs.Option.{option_map}
use Rattle.std.proofs.lemmas.Bool.{cond-true, cond-false}
use Rattle.std.proofs.lemmas.Bool.Decides.{nat_tests}
use Rattle.cold.specs.declared.store.ColdRefusal.TheVariants.{There, Full}
use Rattle.cold.specs.Cold.{Entry, before, is_there, put_in, put_answer, put_after, is_own, own, first_of}
use Rattle.keys.specs.declared.rows.ListingRow.{ListingRow}
use Rattle.loading.specs.Loading.{first_row, row_behind}

module _ {R : Type 0} where
  -- where nothing passed, what goes in and passes stands alone
  kept_alone : (p : Entry R → Bool) (e : Entry R) (es : List (Entry R)) → p e ≡ true → filter p es ≡ [] → filter p (put_in e es) ≡ e ∷ []
  unfolding put_in
  kept_alone p e [] h k = cond-true (p e) (e ∷ []) [] h
  kept_alone p e (x ∷ xs) h k = go (before x e) (p x) refl k (kept_alone p e xs h)
    where
      go : (b q : Bool) → p x ≡ q → cond q (x ∷ filter p xs) (filter p xs) ≡ [] → (filter p xs ≡ [] → filter p (put_in e xs) ≡ e ∷ [])
          → filter p (cond b (x ∷ put_in e xs) (e ∷ (x ∷ xs))) ≡ e ∷ []
      go b true f k i = absurd cc
      go true false f k i = cond-false (p x) _ _ f ∙ i k
      go false false f k i = cond-true (p e) _ _ h ∙ ap (λ ys. e ∷ ys) (cond-false (p x) _ _ f ∙ k)

  -- a key that had no entry has the one of a put that is served
  pub own_put : (limit n t : ℕ) (r : R) (es : List (Entry R)) → own n 0 es ≡ [] → put_answer limit es n t ≡ Ok tt
      → own n 0 (put_after limit es n t r) ≡ record { number = n; tag = t; row = r } ∷ []
  own_put limit n t r es h a = go (is_there n t es) (eqb (length es) limit) a
    where
      mine : (eqb n n && leb 0 t) ≡ true
      mine = grind (arith, nat_tests)

      go : (b q : Bool) → cond b (Err There) (cond q (Err (Full (length es))) (Ok (tt {0}))) ≡ Ok (tt {0})
          → own n 0 (cond b es (cond q es (put_in (record { number = n; tag = t; row = r }) es))) ≡ record { number = n; tag = t; row = r } ∷ []
      go true q a = absurd cc
      go false true a = absurd cc
      go false false a = kept_alone (is_own n 0) (record { number = n; tag = t; row = r }) es mine h

found_again : (limit n t : ℕ) (r : ListingRow) (es : List (Entry ListingRow)) → own n 0 es ≡ [] → put_answer limit es n t ≡ Ok tt
    → first_row (put_after limit es n t r) n ≡ Some r
found_again limit n t r es h a = ap (λ x. option_map (λ f. f.row) (first_of x)) (own_put limit n t r es h a)

-- a find after a put, behind a filter that was given the number m of the key
pub again : (f : ℕ → Bool) (limit n t m : ℕ) (r : ListingRow) (es new : List (Entry ListingRow)) (x : Option ListingRow)
    → m ≡ n → f m ≡ true → new ≡ put_after limit es n t r → x ≡ row_behind (f n) new n
    → (f n ≡ true) × (x ≡ first_row new n) × (own n 0 es ≡ [] → put_answer limit es n t ≡ Ok tt → x ≡ Some r)
again f limit n t m r es new x em has en ex =
    let h : f n ≡ true = ap f (sym em) ∙ has in
    let v : x ≡ first_row new n = ex ∙ ap (λ b. row_behind b new n) h in
    (h, v, λ k a. v ∙ ap (λ z. first_row z n) en ∙ found_again limit n t r es k a)
