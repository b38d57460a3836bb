-- Bytes cut into blocks of one width.
use Rattle.std.specs.Prelude.{◌≡◌, ℕ, zero, suc, ◌+◌, ◌*◌, ◌<◌, ◌≤◌, Bool, true, false, cond, List, [], ◌∷◌, ◌++◌, map, length, take, drop, replicate, slice_index_or, slice_set}
use Rattle.std.proofs.Math.Path.{refl, ap}
use Rattle.std.proofs.Common.{sym, ◌∙◌, zero-add, mul-zero, add_assoc}
use native.Mathlib.Omega.{arith}
use Rattle.std.proofs.Math.Nat.{mul-suc}
use Rattle.std.proofs.lemmas.List.{take_at, drop_at, take-take, take-append-le, drop-append-le, drop-take, drop-drop, drop_more, drop_all, take-set-le, drop-set-lt, drop-set-add, length-take, length-replicate, replicate-append-replicate, length-drop}
use Rattle.std.proofs.lemmas.Bool.{cond-true, cond-false, and_parts, and_from}
use Rattle.std.specs.List.{prefix_len}
use Rattle.cold.specs.Lists.{all}
use Rattle.blocks.specs.Blocks.{written, cut, part}

module _ {X : Type 0} where
  pub length_cut : (w n : ℕ) (xs : List X) → length (cut w n xs) ≡ n
  unfolding cut
  length_cut w zero xs = refl
  length_cut w (suc n) xs = ap suc (length_cut w n (drop w xs))

  pub cut_at : (w n i : ℕ) (xs : List X) (d : List X) → i < n → slice_index_or (cut w n xs) i d ≡ part (w * i) w xs
  unfolding cut part
  cut_at w zero i xs d h = absurd (let z : ⊥ = omega arith in z)
  cut_at w (suc n) zero xs d h = rw (mul-zero w) refl
  cut_at w (suc n) (suc i) xs d h = let e : w * suc i ≡ w + w * i = omega (arith, mul-suc w i) in cut_at w n i (drop w xs) d (omega arith)
      ∙ rw (e, ← drop-drop (w * i) w xs) refl

pub take_set_in : {X : Type 0} (w : ℕ) (xs : List X) (k : ℕ) (x : X) → k < w → take w (slice_set xs k x) ≡ slice_set (take w xs) k x
take_set_in zero xs k x h = absurd (let z : ⊥ = omega arith in z)
take_set_in (suc w) [] k x h = refl
take_set_in (suc w) (y ∷ ys) zero x h = refl
take_set_in (suc w) (y ∷ ys) (suc k) x h = ap (λ zs. y ∷ zs) (take_set_in w ys k x (omega arith))

-- past the first w elements, a write is one into the rest
written_rest : (w a at : ℕ) (xs ys : List ℕ) → w ≤ length xs → at ≡ w + a
    → (take w (written xs at ys) ≡ take w xs) × (drop w (written xs at ys) ≡ written (drop w xs) a ys)
written_rest w a at xs ys l e =
    let m : w ≤ length (take (w + a) xs) = simp length-take (omega arith) in (
      ap (λ k. take w (written xs k ys)) e ∙ take-append-le w (take (w + a) xs) (ys ++ drop (w + a + length ys) xs) m
          ∙ take-take w (w + a) xs (omega arith),
      ap (λ k. drop w (written xs k ys)) e ∙ drop-append-le w (take (w + a) xs) (ys ++ drop (w + a + length ys) xs) m
          ∙ ap (λ z. z ++ (ys ++ drop (w + a + length ys) xs)) (drop-take w a xs)
          ∙ ap (λ k. take a (drop w xs) ++ (ys ++ drop k xs)) (add_assoc w a (length ys))
          ∙ ap (λ z. take a (drop w xs) ++ (ys ++ z)) (sym (drop-drop (a + length ys) w xs)),
    )

-- one block written
pub cut_written : (w n i at : ℕ) (xs ys : List ℕ) → i < n → w * n ≤ length xs → length ys ≡ w → at ≡ w * i
    → cut w n (written xs at ys) ≡ slice_set (cut w n xs) i ys
unfolding cut
cut_written w zero i at xs ys h l m e = absurd (let z : ⊥ = omega arith in z)
cut_written w (suc n) zero at xs ys h l m e =
    let f : written xs at ys ≡ ys ++ drop w xs = ap (λ k. written xs k ys) (e ∙ mul-zero w) ∙ ap (λ k. ys ++ drop k xs) (zero-add (length ys) ∙ m) in
    let t = take_at ys (drop w xs) w m in
    let d = drop_at ys (drop w xs) w m in
    ap (λ z. take w z ∷ cut w n (drop w z)) f ∙ rw (t, d) refl
cut_written w (suc n) (suc i) at xs ys h l m e =
    let q = mul-suc w n in
    let r = written_rest w (w * i) at xs ys (omega arith) (omega (arith, e, mul-suc w i)) in
    let k : w * n ≤ length (drop w xs) = simp length-drop (omega arith) in
    ap (λ z. z ∷ cut w n (drop w (written xs at ys))) r.0 ∙ ap (λ z. take w xs ∷ cut w n z) r.1
    ∙ ap (λ z. take w xs ∷ z) (cut_written w n i (w * i) (drop w xs) ys (omega arith) k m refl)

-- one element written
pub cut_put : {X : Type 0} (w n i k at : ℕ) (xs : List X) (x : X) → i < n → k < w → at ≡ w * i + k
    → cut w n (slice_set xs at x) ≡ slice_set (cut w n xs) i (slice_set (part (w * i) w xs) k x)
unfolding cut part
cut_put w zero i k at xs x h l e = absurd (let z : ⊥ = omega arith in z)
cut_put w (suc n) zero k at xs x h l e =
    let z : at ≡ k = omega (arith, e, mul-zero w) in
    ap (λ a. take w (slice_set xs a x) ∷ cut w n (drop w (slice_set xs a x))) z
    ∙ ap (λ ys. ys ∷ cut w n (drop w (slice_set xs k x))) (take_set_in w xs k x l) ∙ ap (λ ys. slice_set (take w xs) k x ∷ cut w n ys) (drop-set-lt w xs k x l)
    ∙ ap (λ a. slice_set (take w (drop a xs)) k x ∷ cut w n (drop w xs)) (sym (mul-zero w))
cut_put w (suc n) (suc i) k at xs x h l e =
    let m = mul-suc w i in
    let z : at ≡ w + (w * i + k) = omega arith in
    let q : w + w * i ≡ w * suc i = omega arith in
    let b : part (w * i) w (drop w xs) ≡ part (w * suc i) w xs = ap (take w) (drop-drop (w * i) w xs) ∙ ap (λ a. take w (drop a xs)) q in
    ap (λ ys. ys ∷ cut w n (drop w (slice_set xs at x))) (take-set-le w xs at x (omega arith))
    ∙ ap (λ a. take w xs ∷ cut w n (drop w (slice_set xs a x))) z ∙ ap (λ ys. take w xs ∷ cut w n ys) (drop-set-add w xs (w * i + k) x)
    ∙ ap (λ ys. take w xs ∷ ys) (cut_put w n i k (w * i + k) (drop w xs) x (omega arith) l refl)
    ∙ ap (λ b. take w xs ∷ slice_set (cut w n (drop w xs)) i (slice_set b k x)) b

-- the first that does not pass, in a loop
module _ {X : Type 0} (p : X → Bool) (xs : List X) (i : ℕ) (x d : X) (e : i + prefix_len p (drop i xs) ≡ prefix_len p xs) (h : i < length xs)
    (r : x ≡ slice_index_or xs i d) where
  pub front_here : p x ≡ false → i ≡ prefix_len p xs
  front_here f =
      let d : prefix_len p (drop i xs) ≡ 0 = ap (prefix_len p) (drop_more xs i d h) ∙ ap (λ y. prefix_len p (y ∷ drop (i + 1) xs)) (sym r)
      ∙ cond-false (p x) _ 0 f in
      omega arith

  pub front_more : p x ≡ true → i + 1 + prefix_len p (drop (i + 1) xs) ≡ prefix_len p xs
  front_more f =
      let d : prefix_len p (drop i xs) ≡ 1 + prefix_len p (drop (i + 1) xs) = ap (prefix_len p) (drop_more xs i d h)
      ∙ ap (λ y. prefix_len p (y ∷ drop (i + 1) xs)) (sym r) ∙ cond-true (p x) _ 0 f in
      omega arith

pub front_none : {X : Type 0} (p : X → Bool) (xs : List X) (i : ℕ) → i + prefix_len p (drop i xs) ≡ prefix_len p xs → length xs ≤ i → i ≡ prefix_len p xs
front_none p xs i e h = let d : prefix_len p (drop i xs) ≡ 0 = ap (prefix_len p) (drop_all i xs h) in omega arith

pub front_le : {X : Type 0} (p : X → Bool) (xs : List X) → prefix_len p xs ≤ length xs
front_le p [] = omega arith
front_le p (x ∷ xs) = go (p x) (front_le p xs)
  where
    go : (b : Bool) → prefix_len p xs ≤ length xs → cond b (1 + prefix_len p xs) 0 ≤ suc (length xs)
    go true h = omega arith
    go false h = omega arith

pub prefix_over : {X Y : Type 0} (f : X → Y) (p : Y → Bool) (q : X → Bool) (xs : List X) → ((x : X) → p (f x) ≡ q x)
    → prefix_len p (map f xs) ≡ prefix_len q xs
prefix_over f p q [] h = refl
prefix_over f p q (x ∷ xs) h =
    ap (λ b. cond b (1 + prefix_len p (map f xs)) 0) (h x) ∙ ap (λ n. cond (q x) (1 + n) 0) (prefix_over f p q xs h)

-- a test that every block passes
pub all_set : {X : Type 0} (p : X → Bool) (xs : List X) (i : ℕ) (y : X) → all p xs ≡ true → p y ≡ true → all p (slice_set xs i y) ≡ true
unfolding all
all_set p [] i y e h = refl
all_set p (x ∷ xs) zero y e h = and_from (p y) (all p xs) h (and_parts (p x) (all p xs) e).1
all_set p (x ∷ xs) (suc i) y e h = let q = and_parts (p x) (all p xs) e in and_from (p x) (all p (slice_set xs i y)) q.0 (all_set p xs i y q.1 h)

pub cut_replicate : {X : Type 0} (w n : ℕ) (x : X) → cut w n (replicate (w * n) x) ≡ replicate n (replicate w x)
unfolding cut
cut_replicate w zero x = refl
cut_replicate w (suc n) x =
    let e : w * suc n ≡ w + w * n = omega (arith, mul-suc w n) in
    let f : replicate (w * suc n) x ≡ replicate w x ++ replicate (w * n) x = ap (λ k. replicate k x) e
    ∙ sym (replicate-append-replicate w (w * n) x) in
    ap (λ z. take w z ∷ cut w n (drop w z)) f
    ∙ ap (λ z. z ∷ cut w n (drop w (replicate w x ++ replicate (w * n) x))) (take_at (replicate w x) (replicate (w * n) x) w (length-replicate w x))
    ∙ ap (λ z. replicate w x ∷ cut w n z) (drop_at (replicate w x) (replicate (w * n) x) w (length-replicate w x))
    ∙ ap (λ z. replicate w x ∷ z) (cut_replicate w n x)

pub all_replicate : {X : Type 0} (p : X → Bool) (n : ℕ) (x : X) → p x ≡ true → all p (replicate n x) ≡ true
unfolding all
all_replicate p zero x h = refl
all_replicate p (suc n) x h = and_from (p x) (all p (replicate n x)) h (all_replicate p n x h)
