-- All that is written for an archive whose records are loaded and found again.
use Rattle.std.specs.Prelude.{ℕ, ◌+◌, ◌^◌, Bool, cond, List, [], ◌∷◌, ◌++◌, length, Some, None, Ok, Err, codes, Option, nat_lt}
use Rattle.keys.specs.declared.rows.ListingRow.{ListingRow}
use Rattle.text.specs.Parts.{lines}
use Rattle.text.specs.Numbers.{decimal_text}
use Rattle.cold.specs.Cold.{Entry}
use Rattle.records.specs.Entries as line
use Rattle.records.specs.Entries.{entries}
use Rattle.records.specs.Writing.{found_text, entries_text, count_good, summary_text}
use Rattle.records.specs.declared.record.Record.{Record}
use Rattle.loading.specs.Loading.{loaded, served, first_row, row_behind}
use Rattle.loading.specs.Text.{find_text, absent_text, loaded_text}

-- the record of an entry, if it is one
abbrev pub good : line.Entry → List Record
good (Ok r) = r ∷ []
good (Err b) = []

unfoldable pub goods : List line.Entry → List Record
goods [] = []
goods (e ∷ es) = good e ++ goods es

-- the number after n, if it has 64 bits
abbrev pub number_after : ℕ → Option ℕ
number_after n = cond (nat_lt (n + 1) (2 ^ 64)) (Some (n + 1)) None

-- the number after that of the last record, or 0 where there is none
unfoldable pub next_number : List Record → Option ℕ
next_number [] = Some 0
next_number (r ∷ []) = number_after r.key.id
next_number (r ∷ (s ∷ rs)) = next_number (s ∷ rs)

-- what two filters admit, and the entries of the two stores behind them
module _ (bloom : ℕ → Bool) (sorted : List (Entry ListingRow)) (band : ℕ → Bool) (blocks : List (Entry ListingRow)) where
  -- each record's key, found again
  unfoldable pub finds_text : List Record → List ℕ
  finds_text [] = []
  finds_text (r ∷ rs) =
      find_text r.key.id (row_behind (bloom r.key.id) sorted r.key.id) (row_behind (band r.key.id) blocks r.key.id)
      ++ finds_text rs

  -- a key that was not loaded
  abbrev pub next_text : Option ℕ → List ℕ
  next_text None = []
  next_text (Some n) = absent_text n (bloom n) (band n) (row_behind (bloom n) sorted n) (row_behind (band n) blocks n)

-- what the filters admit once the records are loaded, and the limits and the entries of the stores before
abbrev pub loads_text : (ℕ → Bool) → (ℕ → Bool) → ℕ → List (Entry ListingRow) → ℕ → List (Entry ListingRow) → List Record → List ℕ
loads_text bloom band m sorted n blocks rs =
    finds_text bloom (loaded m sorted 1 rs) band (loaded n blocks 1 rs) rs
    ++ (loaded_text (served m sorted 1 rs) (served n blocks 1 rs)
    ++ next_text bloom (loaded m sorted 1 rs) band (loaded n blocks 1 rs) (next_number rs))

-- both stores answer a find with the same row, and no line says that they differ
abbrev pub agree_text : ℕ → Option ListingRow → List ℕ
agree_text n row =
    codes "found k=" ++ (decimal_text n ++ (codes " sorted=" ++ (found_text row ++ (codes " blocks=" ++ (found_text row ++ codes "\n")))))

unfoldable pub agrees_text : List (Entry ListingRow) → List Record → List ℕ
agrees_text es [] = []
agrees_text es (r ∷ rs) = agree_text r.key.id (first_row es r.key.id) ++ agrees_text es rs

-- two empty stores of 8,192 places take the records alike
abbrev pub alike_text : (ℕ → Bool) → (ℕ → Bool) → List Record → List ℕ
alike_text bloom band rs =
    agrees_text (loaded 8192 [] 1 rs) rs
    ++ (loaded_text (served 8192 [] 1 rs) (served 8192 [] 1 rs)
    ++ next_text bloom (loaded 8192 [] 1 rs) band (loaded 8192 [] 1 rs) (next_number rs))

abbrev pub report_of : (ℕ → Bool) → (ℕ → Bool) → List line.Entry → List ℕ
report_of bloom band es = entries_text es ++ (alike_text bloom band (goods es) ++ summary_text (count_good es))

-- an archive's text has at most 65,536 bytes
abbrev pub answer_of : (ℕ → Bool) → (ℕ → Bool) → List ℕ → List ℕ
answer_of bloom band input = cond (nat_lt 65536 (length input)) (codes "bad=size\n") (report_of bloom band (entries None (lines input)))
