-- What a store holds once the records of an archive are loaded, and what is found again behind a filter.
use Rattle.std.specs.Prelude.{ℕ, ◌+◌, Bool, cond, List, [], ◌∷◌, is_ok, None, Option}
use Rattle.std.specs.Option.{option_map}
use Rattle.keys.specs.declared.rows.ListingRow.{ListingRow}
use Rattle.cold.specs.Cold.{Entry, put_answer, put_after, found}
use Rattle.records.specs.declared.record.Record.{Record}

-- the row of a key's entry with the smallest tag, if it has one
abbrev pub first_row : List (Entry ListingRow) → ℕ → Option ListingRow
first_row es n = option_map (λ f. f.row) (found es n 0)

-- a store is asked only where its filter admits the key
abbrev pub row_behind : Bool → List (Entry ListingRow) → ℕ → Option ListingRow
row_behind admitted es n = cond admitted (first_row es n) None

-- the entries once records were put in, one after another, with tags from t on
unfoldable pub loaded : ℕ → List (Entry ListingRow) → ℕ → List Record → List (Entry ListingRow)
loaded limit es t [] = es
loaded limit es t (r ∷ rs) = loaded limit (put_after limit es r.key.id t r.row) (t + 1) rs

-- how many of those puts are served
unfoldable pub served : ℕ → List (Entry ListingRow) → ℕ → List Record → ℕ
served limit es t [] = 0
served limit es t (r ∷ rs) =
    cond (is_ok (put_answer limit es r.key.id t)) 1 0 + served limit (put_after limit es r.key.id t r.row) (t + 1) rs
