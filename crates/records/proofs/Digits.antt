use Rattle.std.proofs.Common.{◌≡◌, ℕ, ◌+◌, ◌-◌, ◌^◌, ◌<◌, Bool, true, false, List, [], ◌++◌, length, get_or, take, sym, ap, ◌∙◌, lit<}
use mir.Val.{bool_byte}
use Rattle.std.specs.Fmt.{padded_integral, format_spec, digits}
use Rattle.std.proofs.lemmas.Fmt.{decimal_digit, hex_byte}
use Rattle.std.proofs.lemmas.List.{take_more, flat_map_more}
use Rattle.text.specs.Numbers.{decimal_text}
use Rattle.records.specs.Writing.{hex_digits, hex_text, bit_text}

-- one byte more, as `{:02x}` writes it
pub hex_more : (bs : List ℕ) (i : ℕ) → i < length bs → get_or bs i 0 < 256
    → hex_text (take i bs) ++ padded_integral (format_spec 32 0 4 2 (2 ^ 64 - 1)) false [] (digits 16 false (get_or bs i 0)) ≡ hex_text (take (i + 1) bs)
hex_more bs i lt small =
    ap (λ z. hex_text (take i bs) ++ z) (hex_byte false (get_or bs i 0) small)
    ∙ flat_map_more hex_digits [] (take i bs) (get_or bs i 0) ∙ ap hex_text (sym (take_more bs i 0 lt))

-- what `{}` writes of a bool's number
pub bit_digit : (bit : Bool) → decimal_text (bool_byte bit) ≡ bit_text bit
bit_digit true = decimal_digit 1 (lit< tt)
bit_digit false = decimal_digit 0 (lit< tt)
