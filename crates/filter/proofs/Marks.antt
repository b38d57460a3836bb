use Rattle.std.proofs.Common.{◌≡◌, ℕ, zero, suc, ◌+◌, ◌-◌, ◌*◌, ◌/◌, ◌%◌, ◌^◌, ◌<◌, ◌≤◌, Bool, true, false, ◌&&◌, ◌||◌, eqb, List, length, get_or, set, replicate, sym, refl, ap, ◌∙◌, ⊎_elim, arith}
use native.Mathlib.Nat.{div_self, div-eq_of_lt, mul-div_cancel_left, mul-mod_right, pow-succ'}
use lib.Bits.{bit_or, bit_and, or_shr, or_mod, or_zero_r, and_mask}
use Rattle.std.proofs.lemmas.Nat.{pow_pos, pow-add, pow_below, one_shl}
use Rattle.std.proofs.lemmas.Bool.{and_parts, and_from, or_left, or_right, cases_eq, cases_lt, eq-eqb, ne_eqb}
use Rattle.std.proofs.lemmas.List.{get_or-set_same, get_or-set_other, get_or-replicate, length-set}
use Rattle.filter.specs.Bloom.{bit_at, with_bit, in_bloom, with_number, set_with, in_bloom_with, first_place, second_place, third_place}

-- the bit j of 2 ^ k
one_bit : (k : ℕ) → 2 ^ k / 2 ^ k % 2 ≡ 1
one_bit k = ap (λ x. x % 2) (div_self (pow_pos k))

no_bit : (j k : ℕ) → (j ≡ k → ⊥) → 2 ^ k / 2 ^ j % 2 ≡ 0
no_bit j k n =
    ⊎_elim
    (λ (h : j < k).
    let m : k ≡ j + suc (k - j - 1) = omega arith in
    ap (λ x. 2 ^ x / 2 ^ j % 2) m ∙ ap (λ x. x / 2 ^ j % 2) (pow-add 2 j (suc (k - j - 1)))
    ∙ ap (λ x. x % 2) (mul-div_cancel_left (2 ^ suc (k - j - 1)) (pow_pos j))
    ∙ ap (λ x. x % 2) (pow-succ' 2 (k - j - 1)) ∙ mul-mod_right 2 (2 ^ (k - j - 1)))
    (λ (h : k ≤ j). ap (λ x. x % 2) (div-eq_of_lt (pow_below k j
    (let z : k < j = ⊎_elim (λ (q : k < j). q) (λ (q : j ≤ k). absurd (n (let y : j ≡ k = omega arith in y))) (cases_lt k j) in z))))
    (cases_lt j k)

or_bit : (w k j : ℕ) → bit_or w (2 ^ k) / 2 ^ j % 2 ≡ bit_or (w / 2 ^ j % 2) (2 ^ k / 2 ^ j % 2)
or_bit w k j = ap (λ x. x % 2) (or_shr w (2 ^ k) j) ∙ or_mod (w / 2 ^ j) (2 ^ k / 2 ^ j) 1

or_one : (x : ℕ) → x < 2 → bit_or x 1 ≡ 1
or_one zero h = refl
or_one (suc zero) h = refl
or_one (suc (suc x)) h = absurd (let z : ⊥ = omega arith in z)

-- a word's bits after one was set
pub word_set : (w k : ℕ) → bit_or w (2 ^ k) / 2 ^ k % 2 ≡ 1
word_set w k = or_bit w k k ∙ ap (bit_or (w / 2 ^ k % 2)) (one_bit k) ∙ or_one (w / 2 ^ k % 2) (omega arith)

pub word_other : (w k j : ℕ) → (j ≡ k → ⊥) → bit_or w (2 ^ k) / 2 ^ j % 2 ≡ w / 2 ^ j % 2
word_other w k j n = or_bit w k j ∙ ap (bit_or (w / 2 ^ j % 2)) (no_bit j k n) ∙ or_zero_r (w / 2 ^ j % 2)

-- a place is set, and all others stay
pub bit_with : (words : List ℕ) (p q : ℕ) → p / 64 < length words → bit_at (with_bit words p) q ≡ (eqb q p || bit_at words q)
unfolding bit_at with_bit
bit_with words p q l =
    ⊎_elim
    (λ (e : q / 64 ≡ p / 64).
    let g : get_or (set words (p / 64) (bit_or (get_or words (p / 64) 0) (2 ^ (p % 64)))) (q / 64) 0 ≡ bit_or (get_or words (p / 64) 0) (2 ^ (p % 64)) =
    ap (λ i. get_or (set words (p / 64) (bit_or (get_or words (p / 64) 0) (2 ^ (p % 64)))) i 0) e ∙ get_or-set_same words (p / 64) _ 0 l in
    ap (λ x. eqb (x / 2 ^ (q % 64) % 2) 1) g
    ∙ ⊎_elim
    (λ (f : q % 64 ≡ p % 64).
    let z : q ≡ p = omega arith in
    ap (λ j. eqb (bit_or (get_or words (p / 64) 0) (2 ^ (p % 64)) / 2 ^ j % 2) 1) f ∙ ap (λ x. eqb x 1) (word_set (get_or words (p / 64) 0) (p % 64))
    ∙ sym (or_left (eqb q p) _ (eq-eqb q p z)))
    (λ (f : q % 64 ≡ p % 64 → ⊥).
    let z : eqb q p ≡ false = ne_eqb q p (λ y. f (ap (λ x. x % 64) y)) in
    ap (λ x. eqb x 1) (word_other (get_or words (p / 64) 0) (p % 64) (q % 64) f) ∙ ap (λ i. eqb (get_or words i 0 / 2 ^ (q % 64) % 2) 1) (sym e)
    ∙ ap (λ b. b || eqb (get_or words (q / 64) 0 / 2 ^ (q % 64) % 2) 1) (sym z))
    (cases_eq (q % 64) (p % 64)))
    (λ (e : q / 64 ≡ p / 64 → ⊥).
    let z : eqb q p ≡ false = ne_eqb q p (λ y. e (ap (λ x. x / 64) y)) in
    ap (λ x. eqb (x / 2 ^ (q % 64) % 2) 1) (get_or-set_other words (p / 64) (q / 64) _ 0 e)
    ∙ ap (λ b. b || eqb (get_or words (q / 64) 0 / 2 ^ (q % 64) % 2) 1) (sym z))
    (cases_eq (q / 64) (p / 64))

length_with : (words : List ℕ) (p : ℕ) → length (with_bit words p) ≡ length words
unfolding with_bit
length_with words p = length-set words (p / 64) _

three : {a b c d e f : Bool} → a ≡ d → b ≡ e → c ≡ f → (a && (b && c)) ≡ (d && (e && f))
three e f g = cc

module _ (words : List ℕ) (h : ℕ) (l : length words ≡ 64) where
  -- exactly the three places are added
  bits_with : (q : ℕ) → bit_at (with_number words h) q ≡ set_with words h q
  bits_with q =
      let a = length_with words (first_place h) in
      let b = length_with (with_bit words (first_place h)) (second_place h) in
      bit_with (with_bit (with_bit words (first_place h)) (second_place h)) (third_place h) q (omega arith)
      ∙ ap (λ x. eqb q (third_place h) || x) (bit_with (with_bit words (first_place h)) (second_place h) q (omega arith)
      ∙ ap (λ x. eqb q (second_place h) || x) (bit_with words (first_place h) q (omega arith)))

  pub bloom_with : (k : ℕ) → in_bloom (with_number words h) k ≡ in_bloom_with words h k
  bloom_with k = three (bits_with (first_place k)) (bits_with (second_place k)) (bits_with (third_place k))

module _ (words : List ℕ) (h : ℕ) where
  -- what was set stays set
  pub bloom_keeps : (k : ℕ) → in_bloom words k ≡ true → in_bloom_with words h k ≡ true
  bloom_keeps k e =
      let p = and_parts (bit_at words (first_place k)) (bit_at words (second_place k) && bit_at words (third_place k)) e in
      let q = and_parts (bit_at words (second_place k)) (bit_at words (third_place k)) p.1 in
      and_from _ _ (stays (first_place k) p.0) (and_from _ _ (stays (second_place k) q.0) (stays (third_place k) q.1))
    where
      stays : (q : ℕ) → bit_at words q ≡ true → set_with words h q ≡ true
      stays q e = or_right (eqb q (third_place h)) _ (or_right (eqb q (second_place h)) _ (or_right (eqb q (first_place h)) _ e))

-- new words have no bit
pub bloom_none : (n h : ℕ) → n ≡ 64 → in_bloom (replicate n 0) h ≡ false
unfolding bit_at
bloom_none n h e =
    let a = get_or-replicate n (h % 4096 / 64) 0 0 (omega arith) in
    ap (λ w. eqb (w / 2 ^ (h % 4096 % 64) % 2) 1 && (bit_at (replicate n 0) (second_place h) && bit_at (replicate n 0) (third_place h))) a
    ∙ zero_first (h % 4096 % 64) _
  where
    zero_first : (k : ℕ) (b : Bool) → (eqb (0 / 2 ^ k % 2) 1 && b) ≡ false
    zero_first k b = ap (λ x. eqb (x % 2) 1 && b) (div-eq_of_lt (pow_pos k))

pub test_is : (w k : ℕ) → bit_and (w / 2 ^ k) 1 ≡ w / 2 ^ k % 2
test_is w k = and_mask (w / 2 ^ k) 1

pub mask_is : (k : ℕ) → k < 64 → (1 * 2 ^ k) % 2 ^ 64 ≡ 2 ^ k
mask_is k h = one_shl k 64 h
