-- The first block that passes a test, and the blocks as arrays.
use Rattle.std.proofs.Common.{◌≡◌, ℕ, zero, suc, ◌+◌, Bool, true, false, cond, not, is_some, ltb, List, [], ◌∷◌, length, take, drop, Some, None, Option, refl, ap, sym, ◌∙◌}
use Rattle.std.specs.List.{position, prefix_len}
use Rattle.std.specs.Simd.{first_chunks}
use Rattle.blocks.specs.Blocks.{cut, is_used, has_key, seat_of, free_of}
use Rattle.blocks.specs.Cut.{length_cut}

pub cut_chunks : {X : Type 0} (w n : ℕ) (xs : List X) → first_chunks w n xs ≡ cut w n xs
unfolding cut
cut_chunks w zero xs = refl
cut_chunks w (suc n) xs = ap (λ bs. take w xs ∷ bs) (cut_chunks w n (drop w xs))

-- the first that does not pass the turned test
pub prefix_turned : {X : Type 0} (p : X → Bool) (xs : List X) → prefix_len (λ x. not (not (p x))) xs ≡ prefix_len p xs
prefix_turned p [] = refl
prefix_turned p (x ∷ xs) = ap (λ b. cond b (1 + prefix_len (λ x. not (not (p x))) xs) 0) (twice (p x)) ∙ ap (λ n. cond (p x) (1 + n) 0) (prefix_turned p xs)
  where
    twice : (b : Bool) → not (not b) ≡ b
    twice true = refl
    twice false = refl

abbrev below : ℕ → ℕ → Option ℕ
below limit at = cond (ltb at limit) (Some at) None

below_some : (limit at i : ℕ) → Some i ≡ below limit at → (ltb at limit ≡ true) × (i ≡ at)
below_some limit at i e = go (ltb at limit) refl e
  where
    go : (b : Bool) → ltb at limit ≡ b → Some i ≡ cond b (Some at) None → (ltb at limit ≡ true) × (i ≡ at)
    go true f e = (f, let z : i ≡ at = cc in z)
    go false f e = absurd (let z : ⊥ = cc in z)

below_none : (limit at : ℕ) → is_some (below limit at) ≡ false → ltb at limit ≡ false
below_none limit at e = go (ltb at limit) refl e
  where
    go : (b : Bool) → ltb at limit ≡ b → is_some (cond b (Some at) None) ≡ false → ltb at limit ≡ false
    go true f e = absurd (let z : ⊥ = cc in z)
    go false f e = f

-- what the first place with a key, and the first that is free, tell
module _ (limit : ℕ) (xs : List ℕ) where
  seated : (n t : ℕ) → position (has_key n t) (cut 32 limit xs) ≡ below limit (seat_of limit xs n t)
  seated n t = ap (λ k. below k (seat_of limit xs n t)) (length_cut 32 limit xs)

  freed : position (λ b. not (is_used b)) (cut 32 limit xs) ≡ below limit (free_of limit xs)
  freed = ap (below (length (cut 32 limit xs))) (prefix_turned is_used (cut 32 limit xs)) ∙ ap (λ k. below k (free_of limit xs)) (length_cut 32 limit xs)

  pub seat_some : (n t i : ℕ) → Some i ≡ position (has_key n t) (cut 32 limit xs) → (ltb (seat_of limit xs n t) limit ≡ true) × (i ≡ seat_of limit xs n t)
  seat_some n t i e = below_some limit (seat_of limit xs n t) i (e ∙ seated n t)

  pub seat_none : (n t : ℕ) → is_some (position (has_key n t) (cut 32 limit xs)) ≡ false → ltb (seat_of limit xs n t) limit ≡ false
  seat_none n t e = below_none limit (seat_of limit xs n t) (ap is_some (sym (seated n t)) ∙ e)

  pub free_some : (i : ℕ) → Some i ≡ position (λ b. not (is_used b)) (cut 32 limit xs) → (ltb (free_of limit xs) limit ≡ true) × (i ≡ free_of limit xs)
  free_some i e = below_some limit (free_of limit xs) i (e ∙ freed)

  pub free_none : None ≡ position (λ b. not (is_used b)) (cut 32 limit xs) → ltb (free_of limit xs) limit ≡ false
  free_none e = below_none limit (free_of limit xs) (ap is_some (sym freed) ∙ ap is_some (sym e))
