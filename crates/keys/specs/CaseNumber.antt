-- A case's number, seller × 65,536 + serial, is below 2 ^ 64 and tells the seller and the serial.
use Rattle.std.specs.Prelude.{◌≡◌, ℕ, ◌+◌, ◌*◌, ◌^◌, ◌<◌}
use Rattle.std.proofs.Common.{◌∙◌, ap, arith}

pub case_fits : (m n : ℕ) → m < 2 ^ 32 → n < 2 ^ 16 → m * 65536 + n < 2 ^ 64
case_fits m n g h = omega arith

first : (a b x y : ℕ) → x < 2 ^ 16 → y < 2 ^ 16 → a * 65536 + x ≡ b * 65536 + y → a ≡ b
first a b x y g h e = omega arith

second : (a b x y : ℕ) → x < 2 ^ 16 → y < 2 ^ 16 → a * 65536 + x ≡ b * 65536 + y → x ≡ y
second a b x y g h e = omega arith

pub case_parts_same : (a b x y : ℕ) → x < 2 ^ 16 → y < 2 ^ 16 → a * 65536 + x ≡ b * 65536 + y → ◌≡◌ {A = ℕ × ℕ} (a, x) (b, y)
case_parts_same a b x y g h e = ap (λ m. (m, x)) (first a b x y g h e) ∙ ap (λ n. (b, n)) (second a b x y g h e)
