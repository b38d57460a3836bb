-- The lines that tell of a load.
use Rattle.std.specs.Prelude.{ℕ, Bool, true, false, cond, ◌&&◌, List, [], ◌++◌, Some, None, codes, Option, ◌==◌}
use Rattle.keys.specs.declared.rows.ListingRow.{ListingRow}
use Rattle.text.specs.Numbers.{decimal_text}
use Rattle.records.specs.Writing.{bit_text, found_text}

-- whether two finds answer the same
abbrev pub same_rows : Option ListingRow → Option ListingRow → Bool
same_rows (Some a) (Some b) = a.price == b.price && (a.seats == b.seats && a.seller == b.seller)
same_rows (Some a) None = false
same_rows None (Some b) = false
same_rows None None = true

-- differ k=NUMBER, only where they do not
abbrev pub differ_text : ℕ → Option ListingRow → Option ListingRow → List ℕ
differ_text n sorted blocks = cond (same_rows sorted blocks) [] (codes "differ k=" ++ (decimal_text n ++ codes "\n"))

-- the end of a find's line, and what follows it
abbrev pub rows_text : ℕ → Option ListingRow → Option ListingRow → List ℕ
rows_text n sorted blocks =
    codes " sorted=" ++ (found_text sorted ++ (codes " blocks=" ++ (found_text blocks ++ (codes "\n" ++ differ_text n sorted blocks))))

-- found k=NUMBER sorted=ROW blocks=ROW
abbrev pub find_text : ℕ → Option ListingRow → Option ListingRow → List ℕ
find_text n sorted blocks = codes "found k=" ++ (decimal_text n ++ rows_text n sorted blocks)

-- absent k=NUMBER bloom=BIT band=BIT sorted=ROW blocks=ROW
abbrev pub absent_text : ℕ → Bool → Bool → Option ListingRow → Option ListingRow → List ℕ
absent_text n bloom band sorted blocks =
    codes "absent k=" ++ (decimal_text n
    ++ (codes " bloom=" ++ (bit_text bloom
    ++ (codes " band=" ++ (bit_text band ++ rows_text n sorted blocks)))))

-- loaded sorted=COUNT blocks=COUNT
abbrev pub loaded_text : ℕ → ℕ → List ℕ
loaded_text sorted blocks = codes "loaded sorted=" ++ (decimal_text sorted ++ (codes " blocks=" ++ (decimal_text blocks ++ codes "\n")))
