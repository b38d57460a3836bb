-- Decimal numbers as text.
use Rattle.std.specs.Prelude.{◌≡◌, ◌<◌, ◌≤◌, ◌^◌, ℕ, zero, suc, ◌+◌, ◌-◌, ◌*◌, ◌/◌, ◌%◌, Bool, true, cond, ◌&&◌, List, [], ◌∷◌, ◌++◌, length, Some, None, Option, nat_le, nat_lt}
use Rattle.std.specs.Fmt.{decimal}

-- the digits '0' to '9'
abbrev pub is_digit : ℕ → Bool
is_digit b = nat_le 48 b && nat_le b 57

unfoldable pub all_digits : List ℕ → Bool
all_digits [] = true
all_digits (b ∷ bs) = is_digit b && all_digits bs

-- the number that digits write after those of n
unfoldable pub value_after : ℕ → List ℕ → ℕ
value_after n [] = n
value_after n (b ∷ bs) = value_after (n * 10 + (b - 48)) bs

abbrev pub value : List ℕ → ℕ
value bs = value_after 0 bs

-- a text is a number if it has a digit and nothing but digits, and its value is at most the limit
abbrev pub decimal_of : ℕ → List ℕ → Option ℕ
decimal_of limit bs = cond (nat_lt 0 (length bs) && (all_digits bs && nat_le (value bs) limit)) (Some (value bs)) None

-- the digits of n with no leading zero, if they are at most k
unfoldable pub digits_within : ℕ → ℕ → List ℕ
digits_within zero n = []
digits_within (suc k) n = cond (nat_lt n 10) ((48 + n) ∷ []) (digits_within k (n / 10) ++ ((48 + n % 10) ∷ []))

-- what `{}` writes of a number; of each below 2 ^ 64 that is digits_within 20
abbrev pub decimal_text : ℕ → List ℕ
decimal_text = decimal

-- how each number of 64 bits is written: with its digits and no leading zero, and so that it is read back as that number
abbrev pub Written : Type 0
Written = (n : ℕ) → n < 2 ^ 64 → (decimal_text n ≡ digits_within 20 n) × ((limit : ℕ) → n ≤ limit → decimal_of limit (decimal_text n) ≡ Some n)
