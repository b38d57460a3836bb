-- The text that answers an archive: a line for each entry, and then their count.
use Rattle.std.specs.Prelude.{ℕ, ◌+◌, ◌/◌, ◌%◌, Bool, true, false, cond, List, [], ◌∷◌, ◌++◌, length, Some, None, Option, Ok, Err, codes, nat_lt}
use Rattle.std.specs.List.{flat_map}
use Rattle.keys.specs.declared.rows.ListingRow.{ListingRow}
use Rattle.keys.specs.Packing.{packed_listing}
use Rattle.keys.specs.RowText.{row_text}
use Rattle.text.specs.Parts.{lines}
use Rattle.text.specs.Numbers.{decimal_text}
use Rattle.records.specs.Entries.{Entry, entries}
use Rattle.records.specs.declared.record.Record.{Record}

-- a number below 16 as a digit: '0' to '9', then 'a' to 'f'
abbrev pub hex_digit : ℕ → ℕ
hex_digit n = cond (nat_lt n 10) (48 + n) (87 + n)

-- two digits for each byte, the high one first
abbrev pub hex_digits : ℕ → List ℕ
hex_digits b = hex_digit (b / 16) ∷ (hex_digit (b % 16) ∷ [])

abbrev pub hex_text : List ℕ → List ℕ
hex_text = flat_map hex_digits

-- 1 for true and 0 for false
abbrev pub bit_text : Bool → List ℕ
bit_text true = codes "1"
bit_text false = codes "0"

-- PRICE,SEATS,SELLER, or none
abbrev pub found_text : Option ListingRow → List ℕ
found_text (Some r) = row_text r
found_text None = codes "none"

-- k=NUMBER packed=HEX v=PRICE,SEATS,SELLER
abbrev pub record_text : Record → List ℕ
record_text r =
    codes "k=" ++ (decimal_text r.key.id
    ++ (codes " packed=" ++ (hex_text (packed_listing r.row)
    ++ (codes " v=" ++ row_text r.row))))

abbrev pub bad_line_text : List ℕ
bad_line_text = codes "bad=line"

-- the answer to an entry, with its newline
abbrev pub entry_text : Entry → List ℕ
entry_text (Ok r) = record_text r ++ codes "\n"
entry_text (Err b) = bad_line_text ++ codes "\n"

unfoldable pub entries_text : List Entry → List ℕ
entries_text [] = []
entries_text (e ∷ es) = entry_text e ++ entries_text es

-- how many entries are records
abbrev pub is_good : Entry → ℕ
is_good (Ok r) = 1
is_good (Err b) = 0

unfoldable pub count_good : List Entry → ℕ
count_good [] = 0
count_good (e ∷ es) = is_good e + count_good es

-- records=COUNT
abbrev pub summary_text : ℕ → List ℕ
summary_text n = codes "records=" ++ (decimal_text n ++ codes "\n")

abbrev pub answers : List Entry → List ℕ
answers es = entries_text es ++ summary_text (count_good es)

-- all that is written for an archive's text
abbrev pub report_of : List ℕ → List ℕ
report_of input = answers (entries None (lines input))

-- an archive's text has at most 65,536 bytes
abbrev pub answer_of : List ℕ → List ℕ
answer_of input = cond (nat_lt 65536 (length input)) (codes "bad=size\n") (report_of input)
