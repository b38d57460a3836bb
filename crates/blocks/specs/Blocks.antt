-- The bytes of a block store.
use Rattle.std.specs.Prelude.{ℕ, zero, suc, ◌+◌, ◌*◌, Bool, cond, not, ◌&&◌, List, [], ◌∷◌, ◌++◌, length, take, drop, Ok, Err, Result, ◌==◌, nat_le, nat_lt, slice_index, slice_set}
use Rattle.std.specs.List.{prefix_len}
use Rattle.keys.specs.Bytes.{low_bytes, from_low}
use Rattle.cold.specs.declared.store.ColdRefusal.{ColdRefusal}
use Rattle.cold.specs.declared.store.ColdRefusal.TheVariants.{There, Full}

-- the 32 bytes of an entry: key number in 0 to 7, tag in 8 to 11, byte 12 is 1 for used, 13 to 15 are zero, packed row in 16 to 31
abbrev pub entry_bytes : ℕ → ℕ → List ℕ → List ℕ
entry_bytes n t row = low_bytes 8 n ++ (low_bytes 4 t ++ (low_bytes 4 1 ++ row))

-- ys written over xs from a place on
abbrev pub written : List ℕ → ℕ → List ℕ → List ℕ
written xs at ys = take at xs ++ (ys ++ drop (at + length ys) xs)

-- k elements from a place on; shut, since the places are numerals
unfoldable pub part : {X : Type 0} → ℕ → ℕ → List X → List X
part at k xs = take k (drop at xs)

unfoldable pub byte : ℕ → List ℕ → ℕ
byte at xs = slice_index xs at

-- the first n blocks of w elements each
unfoldable pub cut : {X : Type 0} → ℕ → ℕ → List X → List (List X)
cut w zero xs = []
cut w (suc n) xs = take w xs ∷ cut w n (drop w xs)

-- what a block says
abbrev pub is_used : List ℕ → Bool
is_used b = byte 12 b == 1

abbrev pub number_of : List ℕ → ℕ
number_of b = from_low (part 0 8 b)

abbrev pub tag_of : List ℕ → ℕ
tag_of b = from_low (part 8 4 b)

-- it holds the entry of a key number and tag
abbrev pub has_key : ℕ → ℕ → List ℕ → Bool
has_key n t b = is_used b && (number_of b == n && tag_of b == t)

-- it holds an entry of a key number with a tag not below t
abbrev pub has_own : ℕ → ℕ → List ℕ → Bool
has_own n t b = is_used b && (number_of b == n && nat_le t (tag_of b))

-- byte 12 is 0 or 1, and 13 to 15 are zero
abbrev pub is_tidy : List ℕ → Bool
is_tidy b = nat_le (byte 12 b) 1 && (byte 13 b == 0 && (byte 14 b == 0 && byte 15 b == 0))

-- the place of a key number and tag, and the first free place; the limit if there is none
abbrev pub seat_of : ℕ → List ℕ → ℕ → ℕ → ℕ
seat_of limit xs n t = prefix_len (λ b. not (has_key n t b)) (cut 32 limit xs)

abbrev pub free_of : ℕ → List ℕ → ℕ
free_of limit xs = prefix_len is_used (cut 32 limit xs)

-- what put answers, and what put and remove leave of the bytes
abbrev pub bytes_answer : ℕ → List ℕ → ℕ → ℕ → Result (Unit {0}) ColdRefusal
bytes_answer limit xs n t = cond (nat_lt (seat_of limit xs n t) limit) (Err There) (cond (nat_lt (free_of limit xs) limit) (Ok tt) (Err (Full limit)))

abbrev pub put_bytes : ℕ → List ℕ → ℕ → ℕ → List ℕ → List ℕ
put_bytes limit xs n t row =
    cond (nat_lt (seat_of limit xs n t) limit) xs (cond (nat_lt (free_of limit xs) limit) (written xs (32 * free_of limit xs) (entry_bytes n t row)) xs)

abbrev pub removed_bytes : ℕ → List ℕ → ℕ → ℕ → List ℕ
removed_bytes limit xs n t = cond (nat_lt (seat_of limit xs n t) limit) (slice_set xs (32 * seat_of limit xs n t + 12) 0) xs
