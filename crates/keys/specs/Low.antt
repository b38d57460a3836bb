use Rattle.std.specs.Prelude.{◌≡◌, ℕ, zero, suc, ◌+◌, ◌-◌, ◌*◌, ◌/◌, ◌%◌, ◌^◌, ◌<◌, ◌≤◌, List, [], ◌∷◌, ◌++◌, length, take, drop, replicate, slice_index, slice_set, refl}
use Rattle.std.specs.Int.{w64, from_le_bytes, sum_through, byte_worth}
use Rattle.std.proofs.Common.{sym, ◌∙◌, ap, arith, lit<, mod-lt, mod-eq_of_lt}
use Rattle.std.proofs.Math.Nat.{one-le-pow, pow-succ', pow-le-pow_right}
use Rattle.std.proofs.lemmas.List.{drop-replicate, take_more_set, append_assoc, drop_more, append-nil, take_all, length-drop, get_or-drop, take_at, drop_at, length-append, drop_all, length-take, drop-drop, set_split}
use borrow.Rule.Slice.PartMut.{put_mid, post_of}
use Rattle.keys.specs.Bytes.{low_bytes, from_low}
use Rattle.keys.specs.Bytes.{low}
use Rattle.keys.specs.Packing.{laid}

pub low_step : (n x : ℕ) → 0 < n → low_bytes n x ≡ x % 256 ∷ low_bytes (n - 1) (x / 256)
unfolding low_bytes
low_step zero x h = absurd (let z : ⊥ = omega arith in z)
low_step (suc n) x h = let e : suc n - 1 ≡ n = omega arith in rw e refl

pub low_zero : (n x : ℕ) → n ≡ 0 → low_bytes n x ≡ []
unfolding low_bytes
low_zero n x e = rw e refl

-- one more byte written
pub low_more : (goal out : List ℕ) (n i rest : ℕ) → i < n → n ≡ length out → goal ≡ take i out ++ low_bytes (n - i) rest → goal ≡ take (i + 1) (slice_set out i (rest % 256)) ++ low_bytes (n - (i + 1)) (rest / 256)
low_more goal out n i rest h l e =
    let s = low_step (n - i) rest (omega arith) in
    let k : n - i - 1 ≡ n - (i + 1) = omega arith in
    let t = take_more_set out i (rest % 256) (omega arith) in
    e ∙ ap (λ z. take i out ++ z) s ∙ rw (k, t, append_assoc) refl

pub length_low : (n x : ℕ) → length (low_bytes n x) ≡ n
unfolding low_bytes
length_low zero x = refl
length_low (suc n) x = ap suc (length_low n (x / 256))

pub from_low_lt : (bs : List ℕ) → ((i : ℕ) → slice_index bs i < 256) → from_low bs < 256 ^ length bs
unfolding from_low
from_low_lt [] h = omega arith
from_low_lt (b ∷ bs) h =
    let a = from_low_lt bs (λ i. h (suc i)) in
    let z : b < 256 = h 0 in
    let p : 256 ^ suc (length bs) ≡ 256 * 256 ^ length bs = pow-succ' 256 (length bs) in
    rw p (omega (arith, a, z))

-- one more byte read, from the end
pub from_low_more : (bs : List ℕ) (i n : ℕ) → 0 < i → i ≤ length bs → n ≡ from_low (drop i bs) → n * 256 + slice_index bs (i - 1) ≡ from_low (drop (i - 1) bs)
unfolding from_low
from_low_more bs i n p h e =
    let d = drop_more bs (i - 1) 0 (omega arith) in
    let k : i - 1 + 1 ≡ i = omega arith in
    let d' : drop (i - 1) bs ≡ slice_index bs (i - 1) ∷ drop i bs = d ∙ rw k refl in
    rw d' (omega (arith, e))

-- what is read from the end of at most eight bytes leaves room for one more
pub from_low_room : (bs : List ℕ) (i n : ℕ) → ((k : ℕ) → slice_index bs k < 256) → 0 < i → i ≤ length bs → length bs ≤ 8 → n ≡ from_low (drop i bs) → n < 2 ^ 56
from_low_room bs i n t p h l e =
    let b = from_low_lt (drop i bs) (λ k. rw get_or-drop (t (i + k))) in
    let m : length (drop i bs) ≤ 7 = simp length-drop (omega arith) in
    let q : 256 ^ length (drop i bs) ≤ 256 ^ 7 = pow-le-pow_right (omega arith) m in
    omega (arith, b, q, e)

-- the first n bytes are written as p, and then ys on the next k
pub laid_more : (n k : ℕ) (p ys xs cur : List ℕ) → length p ≡ n → cur ≡ p ++ drop n xs → put_mid n k cur ys ≡ (p ++ ys) ++ drop (n + k) xs
laid_more n k p ys xs cur l e =
    let t = take_at p (drop n xs) n l in
    let d = drop_at p (drop n xs) n l in
    let f = drop-drop k n xs in
    ap (λ z. put_mid n k z ys) e ∙ rw (t, d, f) (sym (append_assoc p ys (drop (n + k) xs)))

pub laid_all : (n : ℕ) (p xs cur : List ℕ) → length xs ≤ n → cur ≡ p ++ drop n xs → cur ≡ p
laid_all n p xs cur h e = let d = drop_all n xs h in e ∙ rw d (append-nil p)

pub length_pushed : (p ys : List ℕ) (n k : ℕ) → length p ≡ n → length ys ≡ k → length (p ++ ys) ≡ n + k
length_pushed p ys n k l m = simp length-append (omega arith)

pub from_low_back : (n x : ℕ) → x < 256 ^ n → from_low (low_bytes n x) ≡ x
unfolding from_low low_bytes
from_low_back zero x h = omega (arith, h)
from_low_back (suc n) x h =
    let p = pow-succ' 256 n in
    let q : x / 256 < 256 ^ n = omega (arith, p, h) in
    let r = from_low_back n (x / 256) q in
    omega (arith, r)

pub low_front : (n x : ℕ) (rest : List ℕ) → x < 256 ^ n → low n (low_bytes n x ++ rest) ≡ x
low_front n x rest h =
    let t = take_at (low_bytes n x) rest n (length_low n x) in
    let b = from_low_back n x h in
    rw (t, b) (mod-eq_of_lt h)

pub low_is : (n v : ℕ) (bs : List ℕ) → v ≡ from_low (take n bs) → v < 256 ^ length (take n bs) → v ≡ low n bs
low_is n v bs e h =
    let m : length (take n bs) ≤ n = simp length-take (omega arith) in
    let q : 256 ^ length (take n bs) ≤ 256 ^ n = pow-le-pow_right (omega arith) m in
    let z : from_low (take n bs) < 256 ^ n = omega (arith, e, h, q) in
    e ∙ sym (mod-eq_of_lt z)

pub tile4 : (xs a b c d : List ℕ) → length xs ≡ 16 → length a ≡ 4 → length b ≡ 4 → length c ≡ 2 → length d ≡ 6 → put_mid 10 6 (put_mid 8 2 (put_mid 4 4 (a ++ post_of 0 4 xs) b) c) d ≡ a ++ (b ++ (c ++ d))
tile4 xs a b c d l m n o p =
    let e2 = laid_more 4 4 a b xs _ m refl in
    let l2 = length_pushed a b 4 4 m n in
    let e3 = laid_more 8 2 (a ++ b) c xs _ l2 e2 in
    let l3 = length_pushed (a ++ b) c 8 2 l2 o in
    let e4 = laid_more 10 6 ((a ++ b) ++ c) d xs _ l3 e3 in
    laid_all 16 (((a ++ b) ++ c) ++ d) xs _ (omega arith) e4 ∙ simp append_assoc

pub tile3 : (xs b c : List ℕ) (k : ℕ) → length xs ≡ 16 → length b ≡ 4 → length c ≡ 11 → put_mid 5 11 (put_mid 1 4 (slice_set xs 0 k) b) c ≡ k ∷ (b ++ c)
tile3 xs b c k l m n =
    let s = set_split xs 0 k (omega arith) in
    let e2 = laid_more 1 4 (k ∷ []) b xs _ refl s in
    let l2 = length_pushed (k ∷ []) b 1 4 refl m in
    let e3 = laid_more 5 11 ((k ∷ []) ++ b) c xs _ l2 e2 in
    laid_all 16 (((k ∷ []) ++ b) ++ c) xs _ (omega arith) e3 ∙ simp append_assoc

-- what `write_low` ensures of a part whose length is known
pub low_at : {ys : List ℕ} {n : ℕ} (k x : ℕ) → length ys ≡ n → ys ≡ low_bytes k x → ys ≡ low_bytes n x
low_at {ys} {n} k x l e =
    let f : k ≡ n = sym (length_low k x) ∙ sym (ap length e) ∙ l in e ∙ rw f refl

-- nothing lies past the end
pub part_none : (n at : ℕ) (xs : List ℕ) → length xs ≤ at → take n (drop at xs) ≡ []
part_none n at xs h = let d = drop_all at xs h in ap (take n) d ∙ take_all n [] (omega arith)

pub low_lt : (n : ℕ) (bs : List ℕ) → low n bs < 256 ^ n
low_lt n bs = mod-lt (from_low (take n bs)) (one-le-pow n 256 (lit< tt))

-- the packed row on 16 lent bytes
pub laid_on : (row out : List ℕ) → length out ≡ 16 → laid row out ≡ row
laid_on row out l = rw l refl

-- what the library reads of bytes, one from the front at a time
worth_more : (x : ℕ) (xs : List ℕ) (k : ℕ) → sum_through (λ i. byte_worth i (slice_index (x ∷ xs) i)) (suc k) ≡ x + 256 * sum_through (λ i. byte_worth i (slice_index xs i)) k
worth_more x xs zero = omega arith
worth_more x xs (suc k) =
    let r = worth_more x xs k in
    let p : 256 ^ suc (suc k) ≡ 256 * 256 ^ suc k = pow-succ' 256 (suc k) in
    ap (λ n. n + slice_index xs (suc k) * 256 ^ suc (suc k)) r ∙ rw p (omega arith)

worth_none : (k : ℕ) → sum_through (λ i. byte_worth i (slice_index [] i)) k ≡ 0
worth_none zero = refl
worth_none (suc k) = let r = worth_none k in omega arith

worth_low : (k : ℕ) (xs : List ℕ) → length xs ≤ suc k → sum_through (λ i. byte_worth i (slice_index xs i)) k ≡ from_low xs
unfolding from_low
worth_low k [] h = worth_none k
worth_low zero (x ∷ []) h = omega arith
worth_low zero (x ∷ (y ∷ ys)) h = absurd (let z : ⊥ = omega arith in z)
worth_low (suc k) (x ∷ xs) h = worth_more x xs k ∙ ap (λ n. x + 256 * n) (worth_low k xs (omega arith))

from_low_zeros : (xs : List ℕ) (m : ℕ) → from_low (xs ++ replicate m 0) ≡ from_low xs
unfolding from_low
from_low_zeros [] zero = refl
from_low_zeros [] (suc m) = let r = from_low_zeros [] m in omega arith
from_low_zeros (x ∷ xs) m = ap (λ n. x + 256 * n) (from_low_zeros xs m)

-- at most eight bytes, and zeros to eight
pub low_of_eight : (xs : List ℕ) → length xs ≤ 8 → from_le_bytes w64 (xs ++ drop (length xs) (replicate 8 0)) ≡ from_low xs
low_of_eight xs h =
    let l : length (xs ++ drop (length xs) (replicate 8 0)) ≤ 8 = simp (length-append, length-drop) (omega arith) in
    worth_low 7 (xs ++ drop (length xs) (replicate 8 0)) l ∙ ap (λ z. from_low (xs ++ z)) (drop-replicate (length xs) 8 0)
    ∙ from_low_zeros xs (8 - length xs)
