use Rattle.std.proofs.Common.{◌≡◌, ◌≢◌, ℕ, suc, ◌+◌, ◌<◌, ◌≤◌, Bool, true, false, cond, eqb, ◌⊎◌, List, [], ◌∷◌, ◌++◌, length, take, drop, Option, MatchOption, unwrap_or, sym, refl, ap, ◌∙◌, inl, inr, ⊎_elim, add-one, arith}
use Rattle.std.proofs.lemmas.Iterator.{index_from_first}
use Rattle.std.specs.List.{AllWithin, HoldsAt}
use Rattle.std.proofs.lemmas.Bool.{eq-eqb, ne_eqb, eqb-true, cond-true, cond-false}
use Rattle.text.specs.Parts.{count_to, onto, cut, split, lines, join}

-- the first place of a byte, or the length where it is not there
module _ (at : ℕ) where
  here : (b : ℕ) (bs : List ℕ) → b ≡ at → count_to at (b ∷ bs) ≡ 0
  unfolding count_to
  here b bs e = cond-true (eqb b at) 0 _ (eq-eqb b at e)

  further : (b : ℕ) (bs : List ℕ) → b ≢ at → count_to at (b ∷ bs) ≡ count_to at bs + 1
  unfolding count_to
  further b bs n = cond-false (eqb b at) 0 _ (ne_eqb b at n) ∙ sym (add-one _)

  none : count_to at [] ≡ 0
  unfolding count_to
  none = refl

  pub count_first : (bs : List ℕ) (r : Option ℕ)
      → MatchOption r (AllWithin (λ b. b ≢ at) bs 0 (length bs)) (λ i. (i < length bs) × HoldsAt (λ b. b ≡ at) bs i × AllWithin (λ b. b ≢ at) bs 0 i)
      → unwrap_or r (length bs) ≡ count_to at bs
  count_first bs r h = sym (index_from_first (count_to at) (λ b. b ≡ at) (λ b. b ≢ at) none here further bs r h)

-- a text with the byte `at` in it begins with the part before that byte
module _ (at : ℕ) (last : List (List ℕ)) where
  found_step : (b : ℕ) (bs : List ℕ) (t : Bool) → cond t 0 (suc (count_to at bs)) < suc (length bs)
      → (count_to at bs < length bs → cut at last bs ≡ take (count_to at bs) bs ∷ cut at last (drop (count_to at bs + 1) bs))
      → cond t ([] ∷ cut at last bs) (onto b (cut at last bs)) ≡ take (cond t 0 (suc (count_to at bs))) (b ∷ bs) ∷ cut at last (drop (cond t 0 (suc (count_to at bs)) + 1) (b ∷ bs))
  found_step b bs true h again = refl
  found_step b bs false h again =
      let e : suc (count_to at bs + 1) ≡ suc (count_to at bs) + 1 = omega arith in
      ap (onto b) (again (omega arith)) ∙ ap (λ m. (b ∷ take (count_to at bs) bs) ∷ cut at last (drop m (b ∷ bs))) e

  cut_found : (bs : List ℕ) → count_to at bs < length bs → cut at last bs ≡ take (count_to at bs) bs ∷ cut at last (drop (count_to at bs + 1) bs)
  unfolding count_to cut
  cut_found [] h = absurd (omega arith)
  cut_found (b ∷ bs) h = found_step b bs (eqb b at) h (cut_found bs)

  -- the same of the two texts that stand before and after it
  pub cut_next : (bs part rest : List ℕ) → (part ≡ take (count_to at bs) bs) × (rest ≡ drop (count_to at bs + 1) bs) × (count_to at bs + 1 ≤ length bs)
      → cut at last bs ≡ part ∷ cut at last rest
  cut_next bs part rest h = rw (h.0, h.1) (cut_found bs (omega (arith, h.2)))

  -- a text without that byte is one part
  alone : (b : ℕ) (x y : List (List ℕ)) (t : Bool) (m n : ℕ) → cond t 0 (suc m) ≡ suc n → (cond t x y ≡ y) × (m ≡ n)
  alone b x y true m n e = absurd (omega arith)
  alone b x y false m n e = (refl, omega arith)

  cut_none : ((b : ℕ) → onto b last ≡ (b ∷ []) ∷ []) → (b : ℕ) (bs : List ℕ) → count_to at (b ∷ bs) ≡ length (b ∷ bs)
      → cut at last (b ∷ bs) ≡ (b ∷ bs) ∷ []
  unfolding count_to cut
  cut_none only b [] h = (alone b ([] ∷ last) (onto b last) (eqb b at) 0 0 h).0 ∙ only b
  cut_none only b (c ∷ cs) h =
      let p = alone b ([] ∷ cut at last (c ∷ cs)) (onto b (cut at last (c ∷ cs))) (eqb b at) (count_to at (c ∷ cs)) (length (c ∷ cs)) h in
      p.0 ∙ ap (onto b) (cut_none only c cs p.1)

pub split_none : (at : ℕ) (bs : List ℕ) → count_to at bs ≡ length bs → split at bs ≡ bs ∷ []
unfolding cut
split_none at [] h = refl
split_none at (b ∷ bs) h = cut_none at ([] ∷ []) (λ b. refl) b bs h

pub lines_empty : (bs : List ℕ) → length bs ≡ 0 → lines bs ≡ []
unfolding cut
lines_empty [] h = refl
lines_empty (b ∷ bs) h = absurd (omega arith)

pub lines_none : (bs : List ℕ) → (length bs ≡ 0 → ⊥) → count_to 10 bs ≡ length bs → lines bs ≡ bs ∷ []
lines_none [] n h = absurd (n refl)
lines_none (b ∷ bs) n h = cut_none 10 [] (λ b. refl) b bs h

-- the parts joined again are the text
some_onto : (b : ℕ) (x : List (List ℕ)) → 0 < length (onto b x)
some_onto b [] = omega arith
some_onto b (p ∷ ps) = omega arith

some_step : (b : ℕ) (x : List (List ℕ)) (t : Bool) → 0 < length (cond t ([] ∷ x) (onto b x))
some_step b x true = omega arith
some_step b x false = some_onto b x

some_split : (at : ℕ) (bs : List ℕ) → 0 < length (split at bs)
unfolding cut
some_split at [] = omega arith
some_split at (b ∷ bs) = some_step b (split at bs) (eqb b at)

join_step : (at b : ℕ) (x : List (List ℕ)) (bs : List ℕ) (t : Bool) → (t ≡ true → b ≡ at) → 0 < length x → join at x ≡ bs
    → join at (cond t ([] ∷ x) (onto b x)) ≡ b ∷ bs
unfolding join
join_step at b [] bs t is s e = absurd (omega arith)
join_step at b (p ∷ ps) bs true is s e = ap (λ z. z ∷ join at (p ∷ ps)) (sym (is refl)) ∙ ap (λ z. b ∷ z) e
join_step at b (p ∷ []) bs false is s e = ap (λ z. b ∷ z) e
join_step at b (p ∷ (q ∷ qs)) bs false is s e = ap (λ z. b ∷ z) e

pub join_split : (at : ℕ) (bs : List ℕ) → join at (split at bs) ≡ bs
unfolding cut join
join_split at [] = refl
join_split at (b ∷ bs) = join_step at b (split at bs) bs (eqb b at) (eqb-true b at) (some_split at bs) (join_split at bs)

-- the lines joined again are the input, or lack its final newline
ended : (bs : List ℕ) → lines bs ≡ [] → bs ≡ []
unfolding cut
ended [] e = refl
ended (b ∷ bs) e = absurd (omega (arith, some_step b (lines bs) (eqb b 10), ap length e))

lines_step : (b : ℕ) (x : List (List ℕ)) (bs : List ℕ) (t : Bool) → (t ≡ true → b ≡ 10) → (x ≡ [] → bs ≡ [])
    → (join 10 x ≡ bs) ⊎ (join 10 x ++ (10 ∷ []) ≡ bs)
    → (join 10 (cond t ([] ∷ x) (onto b x)) ≡ b ∷ bs) ⊎ (join 10 (cond t ([] ∷ x) (onto b x)) ++ (10 ∷ []) ≡ b ∷ bs)
unfolding join
lines_step b [] bs true is done again = inr (ap (λ z. z ∷ []) (sym (is refl)) ∙ ap (λ z. b ∷ z) (sym (done refl)))
lines_step b [] bs false is done again = inl (ap (λ z. b ∷ z) (sym (done refl)))
lines_step b (p ∷ ps) bs t is done again =
    let j = join_step 10 b (p ∷ ps) (join 10 (p ∷ ps)) t is (omega arith) refl in
    ⊎_elim (λ e. inl (j ∙ ap (λ z. b ∷ z) e)) (λ e. inr (ap (λ z. z ++ (10 ∷ [])) j ∙ ap (λ z. b ∷ z) e)) again

pub join_lines : (bs : List ℕ) → (join 10 (lines bs) ≡ bs) ⊎ (join 10 (lines bs) ++ (10 ∷ []) ≡ bs)
unfolding cut join
join_lines [] = inl refl
join_lines (b ∷ bs) = lines_step b (lines bs) bs (eqb b 10) (eqb-true b 10) (ended bs) (join_lines bs)

-- an input has no more lines than bytes
short_step : (b : ℕ) (x : List (List ℕ)) (n : ℕ) (t : Bool) → length x ≤ n → length (cond t ([] ∷ x) (onto b x)) ≤ suc n
short_step b x n true h = omega arith
short_step b [] n false h = omega arith
short_step b (p ∷ ps) n false h = omega arith

pub length_lines : (bs : List ℕ) → length (lines bs) ≤ length bs
unfolding cut
length_lines [] = omega arith
length_lines (b ∷ bs) = short_step b (lines bs) (length bs) (eqb b 10) (length_lines bs)
