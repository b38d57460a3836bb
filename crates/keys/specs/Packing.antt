-- The 16 bytes of a row, and the row of any bytes.
use Rattle.std.specs.Prelude.{ℕ, cond, List, ◌∷◌, ◌++◌, length, take, drop, ◌==◌, slice_index}
use Rattle.std.proofs.Common.{mod-lt, lit<}
use Rattle.keys.specs.Bytes.{low_bytes, from_low, low}
use Rattle.keys.specs.declared.rows.Word32.{Word32}
use Rattle.keys.specs.declared.rows.ListingRow.{ListingRow}
use Rattle.keys.specs.declared.rows.CaseRow.{CaseRow}
use Rattle.keys.specs.declared.rows.CaseRow.TheVariants.{Opened, Waiting, Closed}

-- 16 lent bytes take the packed row; another number of bytes stays as it was
abbrev pub laid : List ℕ → List ℕ → List ℕ
laid row out = cond (length out == 16) row out

-- price in 4 bytes, seller in 4, seats in 2, and 6 zeros
abbrev pub packed_listing : ListingRow → List ℕ
packed_listing r = low_bytes 4 r.price ++ (low_bytes 4 r.seller ++ (low_bytes 2 r.seats ++ low_bytes 6 0))

-- `fits` says that each number is within its width
abbrev pub unpacked_listing : List ℕ → ListingRow
unpacked_listing bs = record {
  price = low 4 bs;
  seller = low 4 (drop 4 bs);
  seats = low 2 (drop 8 bs);
  fits = (
    mod-lt (from_low (take 4 bs)) (lit< tt),
    mod-lt (from_low (take 4 (drop 4 bs))) (lit< tt),
    mod-lt (from_low (take 2 (drop 8 bs))) (lit< tt),
  );
}

-- the kind byte of a case, and the number beside it: a day or an outcome
abbrev pub case_parts : CaseRow → ℕ × ℕ
case_parts Opened = (0, 0)
case_parts (Waiting day) = (1, day.value)
case_parts (Closed outcome) = (2, outcome.value)

-- the kind in 1 byte, its number in 4, and 11 zeros
abbrev pub packed_case : CaseRow → List ℕ
packed_case r = (case_parts r).0 ∷ (low_bytes 4 (case_parts r).1 ++ low_bytes 11 0)

abbrev pub word : List ℕ → Word32
word bs = record { value = low 4 bs; fits = mod-lt (from_low (take 4 bs)) (lit< tt) }

-- a kind byte other than 1 and 2 reads as opened
abbrev pub unpacked_case : List ℕ → CaseRow
unpacked_case bs =
    cond (slice_index bs 0 == 1) (Waiting (word (drop 1 bs)))
    (cond (slice_index bs 0 == 2) (Closed (word (drop 1 bs))) Opened)
