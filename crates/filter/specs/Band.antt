use Rattle.std.specs.Prelude.{ℕ, ◌%◌, min, max, Bool, cond, ◌&&◌, List, map, ◌==◌, nat_le, slice_index, slice_set}
use Rattle.filter.specs.declared.band.Ends.{Ends}

-- the lowest and the highest number of each remainder
abbrev pub lows : List Ends → List ℕ
lows es = map (λ e. e.low) es

abbrev pub highs : List Ends → List ℕ
highs es = map (λ e. e.high) es

-- the ends of a number's remainder
abbrev pub low_of : List ℕ → ℕ → ℕ
low_of lows h = slice_index lows (h % 64)

abbrev pub high_of : List ℕ → ℕ → ℕ
high_of highs h = slice_index highs (h % 64)

-- between the lowest and the highest number of its remainder
abbrev pub in_band : List ℕ → List ℕ → ℕ → Bool
in_band lows highs h = nat_le (low_of lows h) h && nat_le h (high_of highs h)

-- the ends after a number was added
abbrev pub lows_with : List ℕ → ℕ → List ℕ
lows_with lows number = slice_set lows (number % 64) (min (low_of lows number) number)

abbrev pub highs_with : List ℕ → ℕ → List ℕ
highs_with highs number = slice_set highs (number % 64) (max (high_of highs number) number)

-- what is admitted after a number was added: of its remainder all between the new ends, of the others what was so before
abbrev pub in_band_with : List ℕ → List ℕ → ℕ → ℕ → Bool
in_band_with lows highs number h =
    cond (h % 64 == number % 64) (nat_le (min (low_of lows number) number) h && nat_le h (max (high_of highs number) number)) (in_band lows highs h)
