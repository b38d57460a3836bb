-- Byte 12 stays 0 or 1, and 13 to 15 zero.
use Rattle.std.proofs.Common.{◌≡◌, ℕ, zero, suc, ◌+◌, ◌-◌, ◌*◌, ◌<◌, ◌≤◌, Bool, true, ◌&&◌, eqb, leb, List, [], ◌∷◌, ◌++◌, length, get_or, set, replicate, sym, refl, ap, ◌∙◌, arith}
use Rattle.std.proofs.lemmas.Bool.{and_parts}
use Rattle.std.proofs.lemmas.List.{append_assoc, get_or-set_other, get_or-append_right}
use Rattle.keys.specs.Bytes.{low_bytes}
use Rattle.keys.specs.Low.{length_low, length_pushed}
use Rattle.cold.specs.Lists.{all}
use Rattle.cold.proofs.Lists.{all_at}
use Rattle.blocks.specs.Blocks.{entry_bytes, written, byte, cut, part, is_tidy}
use Rattle.blocks.specs.Lent.{length_entry}
use Rattle.blocks.specs.Cut.{length_cut, cut_at, cut_written, cut_put, all_set, cut_replicate, all_replicate}

abbrev tidy_by : ℕ → ℕ → ℕ → ℕ → Bool
tidy_by a b c d = leb a 1 && (eqb b 0 && (eqb c 0 && eqb d 0))

four : {a b c d e f g h : ℕ} → a ≡ e → b ≡ f → c ≡ g → d ≡ h → tidy_by a b c d ≡ tidy_by e f g h
four i j k l = cc

get_or_set_zero : (xs : List ℕ) (i : ℕ) → get_or (set xs i 0) i 0 ≡ 0
get_or_set_zero [] i = refl
get_or_set_zero (x ∷ xs) zero = refl
get_or_set_zero (x ∷ xs) (suc i) = get_or_set_zero xs i

cleared_tidy : (b : List ℕ) → is_tidy b ≡ true → is_tidy (set b 12 0) ≡ true
unfolding byte
cleared_tidy b h =
    four (get_or_set_zero b 12) (get_or-set_other b 12 13 0 0 (λ e. let z : ⊥ = omega arith in z))
    (get_or-set_other b 12 14 0 0 (λ e. let z : ⊥ = omega arith in z)) (get_or-set_other b 12 15 0 0 (λ e. let z : ⊥ = omega arith in z))
    ∙ (and_parts (leb (byte 12 b) 1) (eqb (byte 13 b) 0 && (eqb (byte 14 b) 0 && eqb (byte 15 b) 0)) h).1

filled_tidy : (n t : ℕ) (row : List ℕ) → is_tidy (entry_bytes n t row) ≡ true
unfolding byte low_bytes
filled_tidy n t row =
    let l : length (low_bytes 8 n ++ low_bytes 4 t) ≡ 12 = length_pushed (low_bytes 8 n) (low_bytes 4 t) 8 4 (length_low 8 n) (length_low 4 t) in
    ap is_tidy (sym (append_assoc (low_bytes 8 n) (low_bytes 4 t) (low_bytes 4 1 ++ row)))
    ∙ four (after 12 l (omega arith)) (after 13 l (omega arith)) (after 14 l (omega arith)) (after 15 l (omega arith))
  where
    after : (i : ℕ) → length (low_bytes 8 n ++ low_bytes 4 t) ≡ 12 → 12 ≤ i
        → byte i ((low_bytes 8 n ++ low_bytes 4 t) ++ (low_bytes 4 1 ++ row)) ≡ get_or (low_bytes 4 1 ++ row) (i - 12) 0
    after i l h = get_or-append_right (low_bytes 8 n ++ low_bytes 4 t) (low_bytes 4 1 ++ row) 12 i 0 l h

pub filled_kept : (limit at n t : ℕ) (xs row : List ℕ) → at < limit → 32 * limit ≤ length xs → length row ≡ 16
    → all is_tidy (cut 32 limit xs) ≡ true → all is_tidy (cut 32 limit (written xs (32 * at) (entry_bytes n t row))) ≡ true
filled_kept limit at n t xs row h l m o =
    let k = length_entry n t row m in
    ap (all is_tidy) (cut_written 32 limit at (32 * at) xs (entry_bytes n t row) h l k refl)
    ∙ all_set is_tidy (cut 32 limit xs) at (entry_bytes n t row) o (filled_tidy n t row)

pub cleared_kept : (limit at : ℕ) (xs : List ℕ) → at < limit → all is_tidy (cut 32 limit xs) ≡ true
    → all is_tidy (cut 32 limit (set xs (32 * at + 12) 0)) ≡ true
cleared_kept limit at xs h o =
    let n = length_cut 32 limit xs in
    ap (all is_tidy) (cut_put 32 limit at 12 (32 * at + 12) xs 0 h (omega arith) refl)
    ∙ all_set is_tidy (cut 32 limit xs) at (set (part (32 * at) 32 xs) 12 0) o
    (cleared_tidy (part (32 * at) 32 xs) (ap is_tidy (sym (cut_at 32 limit at xs [] h)) ∙ all_at is_tidy (cut 32 limit xs) at [] (omega arith) o))

-- a new store
pub new_tidy : (limit : ℕ) → all is_tidy (cut 32 limit (replicate (32 * limit) 0)) ≡ true
unfolding byte
new_tidy limit = ap (all is_tidy) (cut_replicate 32 limit 0) ∙ all_replicate is_tidy limit (replicate 32 0) refl
