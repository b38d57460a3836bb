-- The entries of cells, when one cell is filled or cleared.
use Rattle.std.specs.Prelude.{◌≡◌, ℕ, zero, suc, ◌+◌, ◌<◌, ◌≤◌, Bool, true, false, cond, not, ◌||◌, List, [], ◌∷◌, length, drop, Some, None, Option, ◌==◌, slice_index_or, slice_set}
use Rattle.std.proofs.Math.Path.{refl, sym, ap}
use Rattle.std.proofs.Common.{◌∙◌}
use native.Mathlib.Omega.{arith}
use Rattle.std.proofs.lemmas.List.{drop_more}
use Rattle.std.proofs.lemmas.Bool.{and_parts, or_parts, or_left, eqb-true}
use Rattle.std.specs.List.{prefix_len}
use Rattle.cold.specs.Lists.{any}
use Rattle.cold.specs.Cold.{Entry, in_order, is_of, is_there, put_in, removed_after, told}
use Rattle.cold.specs.declared.store.Found.{Found}
use Rattle.cold.proofs.PutIn.{put_in_comm, any_put_in, order_back, removed_put_in, length_put_in}
use Rattle.cold.proofs.Places.{nearer, found_by, found_put_in}
use Rattle.blocks.specs.Cells.{gathered, with_cell}

module _ {R : Type 0} where
  -- a cell has an entry, and the entry of a key number and tag
  abbrev pub full : Option (Entry R) → Bool
  full None = false
  full (Some e) = true

  abbrev pub has : ℕ → ℕ → Option (Entry R) → Bool
  has n t None = false
  has n t (Some e) = is_of n t e

  abbrev pub told_cell : Option (Entry R) → Option (Found R)
  told_cell None = None
  told_cell (Some e) = Some (told e)

  there_put_in : (n t : ℕ) (e : Entry R) (es : List (Entry R)) → is_there n t (put_in e es) ≡ (is_of n t e || is_there n t es)
  there_put_in n t e es = any_put_in (is_of n t) e es

  -- a free cell that is filled with what is not there
  pub gathered_set : (cs : List (Option (Entry R))) (i : ℕ) (e : Entry R) → i < length cs → slice_index_or cs i None ≡ None
      → is_there e.number e.tag (gathered cs) ≡ false
      → gathered (slice_set cs i (Some e)) ≡ put_in e (gathered cs)
  unfolding gathered
  gathered_set [] i e l h d = absurd (let z : ⊥ = omega arith in z)
  gathered_set (None ∷ cs) zero e l h d = refl
  gathered_set (Some x ∷ cs) zero e l h d = absurd (let z : ◌≡◌ {A = ℕ} 0 1 = cc in let w : ⊥ = omega arith in w)
  gathered_set (None ∷ cs) (suc i) e l h d = gathered_set cs i e (omega arith) h d
  gathered_set (Some x ∷ cs) (suc i) e l h d =
      let a = or_parts (is_of e.number e.tag x) (is_there e.number e.tag (gathered cs))
      (sym (there_put_in e.number e.tag x (gathered cs)) ∙ d) in
      ap (put_in x) (gathered_set cs i e (omega arith) h a.1) ∙ put_in_comm x e (gathered cs) a.0

  -- a used cell went in last
  pub gathered_clear : (cs : List (Option (Entry R))) (i : ℕ) (e : Entry R) → slice_index_or cs i None ≡ Some e → in_order (gathered cs) ≡ true
      → gathered cs ≡ put_in e (gathered (slice_set cs i None))
  unfolding gathered
  gathered_clear [] i e h o = absurd (let z : ◌≡◌ {A = ℕ} 0 1 = cc in let w : ⊥ = omega arith in w)
  gathered_clear (None ∷ cs) zero e h o = absurd (let z : ◌≡◌ {A = ℕ} 0 1 = cc in let w : ⊥ = omega arith in w)
  gathered_clear (Some x ∷ cs) zero e h o = let z : x ≡ e = cc in ap (λ y. put_in y (gathered cs)) z
  gathered_clear (None ∷ cs) (suc i) e h o = gathered_clear cs i e h o
  gathered_clear (Some x ∷ cs) (suc i) e h o =
      let b = order_back x (gathered cs) o in
      let r = gathered_clear cs i e h b.0 in
      let f = sym (there_put_in x.number x.tag e (gathered (slice_set cs i None))) ∙ ap (is_there x.number x.tag) (sym r) ∙ b.1 in
      let a = or_parts (is_of x.number x.tag e) (is_there x.number x.tag (gathered (slice_set cs i None))) f in
      ap (put_in x) r ∙ sym (put_in_comm e x (gathered (slice_set cs i None)) a.0)

  -- all cells used: as many entries as cells
  pub gathered_full : (cs : List (Option (Entry R))) → prefix_len full cs ≡ length cs → length (gathered cs) ≡ length cs
  unfolding gathered
  gathered_full [] h = refl
  gathered_full (None ∷ cs) h = absurd (let z : ⊥ = omega arith in z)
  gathered_full (Some x ∷ cs) h = length_put_in x (gathered cs) ∙ ap suc (gathered_full cs (omega arith))

  pub gathered_few : (cs : List (Option (Entry R))) → length (gathered cs) ≤ length cs
  unfolding gathered
  gathered_few [] = omega arith
  gathered_few (None ∷ cs) = omega (arith, gathered_few cs)
  gathered_few (Some x ∷ cs) = omega (arith, gathered_few cs, length_put_in x (gathered cs))

  pub gathered_free : (cs : List (Option (Entry R))) → prefix_len full cs < length cs → length (gathered cs) < length cs
  unfolding gathered
  gathered_free [] h = absurd (let z : ⊥ = omega arith in z)
  gathered_free (None ∷ cs) h = omega (arith, gathered_few cs)
  gathered_free (Some x ∷ cs) h = omega (arith, gathered_free cs (omega arith), length_put_in x (gathered cs))

  -- no cell has the key and tag
  pub gathered_lacks : (n t : ℕ) (cs : List (Option (Entry R))) → prefix_len (λ c. not (has n t c)) cs ≡ length cs → is_there n t (gathered cs) ≡ false
  unfolding gathered any
  gathered_lacks n t [] h = refl
  gathered_lacks n t (None ∷ cs) h = gathered_lacks n t cs (omega arith)
  gathered_lacks n t (Some x ∷ cs) h = there_put_in n t x (gathered cs) ∙ go (is_of n t x) refl h (gathered_lacks n t cs)
    where
      go : (b : Bool) → is_of n t x ≡ b → cond (not b) (1 + prefix_len (λ c. not (has n t c)) cs) 0 ≡ suc (length cs)
          → (prefix_len (λ c. not (has n t c)) cs ≡ length cs → is_there n t (gathered cs) ≡ false) → (b || is_there n t (gathered cs)) ≡ false
      go true f h i = absurd (let z : ⊥ = omega arith in z)
      go false f h i = i (omega arith)

  -- a cell of the key and tag
  pub full_at : (n t : ℕ) (c : Option (Entry R)) → has n t c ≡ true → (e : Entry R) × (c ≡ Some e) × (is_of n t e ≡ true)
  full_at n t None h = absurd (let z : ◌≡◌ {A = ℕ} 0 1 = cc in let w : ⊥ = omega arith in w)
  full_at n t (Some e) h = (e, refl, h)

  pub free_at : (c : Option (Entry R)) → full c ≡ false → c ≡ None
  free_at None h = refl
  free_at (Some e) h = absurd (let z : ◌≡◌ {A = ℕ} 0 1 = cc in let w : ⊥ = omega arith in w)

  there_same : (n t : ℕ) (e : Entry R) (es : List (Entry R)) → is_of n t e ≡ true → is_there e.number e.tag es ≡ false → is_there n t es ≡ false
  there_same n t e es h k =
      let p = and_parts (e.number == n) (e.tag == t) h in
      ap (λ m. is_there m t es) (sym (eqb-true e.number n p.0)) ∙ ap (λ s. is_there e.number s es) (sym (eqb-true e.tag t p.1)) ∙ k

  pub removes_cell : (n t : ℕ) (cs : List (Option (Entry R))) (i : ℕ) → in_order (gathered cs) ≡ true → has n t (slice_index_or cs i None) ≡ true
      → (is_there n t (gathered cs) ≡ true) × (gathered (slice_set cs i None) ≡ removed_after (gathered cs) n t)
  removes_cell n t cs i o h =
      let f = full_at n t (slice_index_or cs i None) h in
      let g = gathered_clear cs i f.0 f.1 o in
      let k = (order_back f.0 (gathered (slice_set cs i None)) (ap in_order (sym g) ∙ o)).1 in (
        ap (is_there n t) g ∙ there_put_in n t f.0 (gathered (slice_set cs i None))
            ∙ or_left (is_of n t f.0) (is_there n t (gathered (slice_set cs i None))) f.2,
        sym (ap (λ es. removed_after es n t) g ∙ removed_put_in n t f.0 (gathered (slice_set cs i None)) f.2
            (there_same n t f.0 (gathered (slice_set cs i None)) f.2 k)),
      )

  -- one more cell, from the end
  pub found_more : (n t : ℕ) (cs : List (Option (Entry R))) (i : ℕ) → i < length cs
      → found_by n t (gathered (drop i cs)) ≡ nearer n t (slice_index_or cs i None) (found_by n t (gathered (drop (i + 1) cs)))
  unfolding gathered
  found_more n t cs i h = ap (λ ds. found_by n t (gathered ds)) (drop_more cs i None h) ∙ go (slice_index_or cs i None)
    where
      go : (c : Option (Entry R)) → found_by n t (with_cell c (gathered (drop (i + 1) cs))) ≡ nearer n t c (found_by n t (gathered (drop (i + 1) cs)))
      go None = refl
      go (Some e) = found_put_in n t e (gathered (drop (i + 1) cs))
