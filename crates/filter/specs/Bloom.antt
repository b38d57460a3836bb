use Rattle.std.specs.Prelude.{ℕ, ◌+◌, ◌/◌, ◌%◌, ◌^◌, Bool, ◌&&◌, ◌||◌, List, ◌==◌, bit_or, slice_index, slice_set}
use Rattle.filter.specs.declared.bloom.ThreePlaces.{ThreePlaces}

-- the bit at a place, 64 to a word, lowest first
unfoldable pub bit_at : List ℕ → ℕ → Bool
bit_at words p = slice_index words (p / 64) / 2 ^ (p % 64) % 2 == 1

-- the words after that bit was set
unfoldable pub with_bit : List ℕ → ℕ → List ℕ
with_bit words p = slice_set words (p / 64) (bit_or (slice_index words (p / 64)) (2 ^ (p % 64)))

-- the three places of a number
abbrev pub first_place : ℕ → ℕ
first_place h = h % 4096

abbrev pub second_place : ℕ → ℕ
second_place h = h / 4096 % 4096

abbrev pub third_place : ℕ → ℕ
third_place h = (first_place h + second_place h) % 4096

abbrev pub places_of : ℕ → ThreePlaces
places_of h = record { first = first_place h; second = second_place h; third = third_place h }

-- all three places are set
abbrev pub in_bloom : List ℕ → ℕ → Bool
in_bloom words h = bit_at words (first_place h) && (bit_at words (second_place h) && bit_at words (third_place h))

-- the words after the three places of a number were set
abbrev pub with_number : List ℕ → ℕ → List ℕ
with_number words h = with_bit (with_bit (with_bit words (first_place h)) (second_place h)) (third_place h)

-- a place is set after a number was added: it is one of the number's own, or was set before
abbrev pub set_with : List ℕ → ℕ → ℕ → Bool
set_with words number p = p == third_place number || (p == second_place number || (p == first_place number || bit_at words p))

-- what is admitted after a number was added
abbrev pub in_bloom_with : List ℕ → ℕ → ℕ → Bool
in_bloom_with words number h =
    set_with words number (first_place h) && (set_with words number (second_place h) && set_with words number (third_place h))
