use Rattle.std.proofs.Common.{◌≡◌, ℕ, ◌+◌, ◌-◌, ◌*◌, ◌^◌, ◌<◌, ◌≤◌, true, false, ◌&&◌, ltb, leb, List, [], ◌∷◌, length, get_or, drop, Some, None, sym, ap, ◌∙◌, arith, rules}
use Rattle.std.proofs.lemmas.Fmt.{AppendsLastDigit, decimal_from_appends, length-decimal-le, decimal_nonempty, digits_decimal, digits_value-decimal}
use Rattle.std.proofs.lemmas.List.{at_drop_more, at_drop_all}
use Rattle.std.proofs.lemmas.Str.Parse.{IsNumeralModel, numerals_by_fold}
use Rattle.std.proofs.lemmas.Bool.{le-leb, lt-leb, lt-ltb, le-ltb, and_left, and_right, and_from, cond-true, cond-false}
use Rattle.text.specs.Numbers.{is_digit, all_digits, value_after, value, decimal_of, digits_within, decimal_text, Written}

-- more digits never make a number smaller
value_ge : (n : ℕ) (bs : List ℕ) → n ≤ value_after n bs
unfolding value_after
value_ge n [] = omega arith
value_ge n (b ∷ bs) = omega (arith, value_ge (n * 10 + (b - 48)) bs)

refused : (limit : ℕ) (bs : List ℕ) → (all_digits bs && leb (value bs) limit) ≡ false → None ≡ decimal_of limit bs
refused limit bs e = sym (cond-false _ _ None (and_right (ltb 0 (length bs)) _ e))

pub empty_refused : (limit : ℕ) (bs : List ℕ) → length bs ≡ 0 → None ≡ decimal_of limit bs
empty_refused limit bs e = sym (cond-false _ _ None (and_left (ltb 0 (length bs)) _ (le-ltb 0 (length bs) (omega arith))))

-- reading: n is the number of the first i digits, and what is left gives the answer
module _ (limit : ℕ) (bs : List ℕ) (i : ℕ) where
  digits_step : i < length bs → all_digits (drop i bs) ≡ all_digits bs → (is_digit (get_or bs i 0) && all_digits (drop (i + 1) bs)) ≡ all_digits bs
  unfolding all_digits
  digits_step h inv = sym (at_drop_more all_digits bs i 0 h) ∙ inv

  pub no_digit : i < length bs → all_digits (drop i bs) ≡ all_digits bs → is_digit (get_or bs i 0) ≡ false → None ≡ decimal_of limit bs
  no_digit h inv e = refused limit bs (and_left _ _ (sym (digits_step h inv) ∙ and_left _ _ e))

module _ (limit n : ℕ) (bs : List ℕ) (i : ℕ) where
  value_step : i < length bs → value_after n (drop i bs) ≡ value bs → value_after (n * 10 + (get_or bs i 0 - 48)) (drop (i + 1) bs) ≡ value bs
  unfolding value_after
  value_step h inv = sym (at_drop_more (value_after n) bs i 0 h) ∙ inv

  pub read_over : i < length bs → limit < n * 10 + (get_or bs i 0 - 48) → value_after n (drop i bs) ≡ value bs → None ≡ decimal_of limit bs
  read_over h o inv =
      let v = value_step h inv in
      let g = value_ge (n * 10 + (get_or bs i 0 - 48)) (drop (i + 1) bs) in
      let l : limit < value bs = omega arith in
      refused limit bs (and_right (all_digits bs) _ (lt-leb (value bs) limit l))

  pub read_more : i < length bs → is_digit (get_or bs i 0) ≡ true
      → (all_digits (drop i bs) ≡ all_digits bs) × (value_after n (drop i bs) ≡ value bs)
      → (all_digits (drop (i + 1) bs) ≡ all_digits bs) × (value_after (n * 10 + (get_or bs i 0 - 48)) (drop (i + 1) bs) ≡ value bs)
  read_more h d inv = (sym (ap (λ b. b && all_digits (drop (i + 1) bs)) d) ∙ digits_step limit bs i h inv.0, value_step h inv.1)

  pub read_all : length bs ≤ i → (length bs ≡ 0 → ⊥) → n ≤ limit
      → (all_digits (drop i bs) ≡ all_digits bs) × (value_after n (drop i bs) ≡ value bs) → Some n ≡ decimal_of limit bs
  unfolding all_digits value_after
  read_all h s l inv =
      let d : all_digits bs ≡ true = sym inv.0 ∙ at_drop_all all_digits bs i h in
      let v : value bs ≡ n = sym inv.1 ∙ at_drop_all (value_after n) bs i h in
      let some = lt-ltb 0 (length bs) (omega arith) in
      let small = le-leb (value bs) limit (omega arith) in
      ap Some (sym v) ∙ sym (cond-true _ (Some (value bs)) None (and_from _ _ some (and_from _ _ d small)))

-- what `{}` writes is spelled digit by digit
spells : AppendsLastDigit digits_within
unfolding digits_within
spells = search rules

pub text_digits : (n : ℕ) → n < 2 ^ 64 → decimal_text n ≡ digits_within 20 n
text_digits n h = sym (decimal_from_appends digits_within spells 20 n h (length-decimal-le 20 n (omega arith) (omega arith) h))

-- what is written is read back
own : IsNumeralModel (λ bs. all_digits bs ≡ true) value
unfolding all_digits value_after
own = numerals_by_fold _ (search rules) value_after (search rules)

pub text_back : (n limit : ℕ) → n < 2 ^ 64 → n ≤ limit → decimal_of limit (decimal_text n) ≡ Some n
text_back n limit h l =
    let d : all_digits (decimal_text n) ≡ true = digits_decimal own n h in
    let v : value (decimal_text n) ≡ n = digits_value-decimal own n h in
    let s : 0 < length (decimal_text n) = decimal_nonempty n h in
    cond-true _ (Some (value (decimal_text n))) None
    (and_from _ _ (lt-ltb 0 (length (decimal_text n)) s) (and_from _ _ d (le-leb (value (decimal_text n)) limit (omega arith)))) ∙ ap Some v

pub written : Written
written n h = (text_digits n h, λ limit l. text_back n limit h l)
