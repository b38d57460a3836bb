-- The rows and records that texts hold.
use Rattle.std.specs.Prelude.{ℕ, ◌%◌, ◌^◌, List, [], ◌∷◌, Some, None, Option}
use Rattle.std.proofs.Common.{mod-lt, lit<}
use Rattle.keys.specs.declared.listing.Listing.{Listing}
use Rattle.keys.specs.declared.rows.ListingRow.{ListingRow}
use Rattle.text.specs.Parts.{split}
use Rattle.text.specs.Numbers.{decimal_of}
use Rattle.text.specs.Words.{Meant, call, session, mode, key, row, other, word_of, words}
use Rattle.records.specs.declared.record.Record.{Record}

-- the number that the first of some parts writes
abbrev pub next_number : ℕ → List (List ℕ) → Option ℕ
next_number limit [] = None
next_number limit (part ∷ others) = decimal_of limit part

-- a key and a row of numbers that fit their widths: each number is its own remainder
abbrev pub listing : ℕ → Listing
listing n = record { id = n % 2 ^ 64; fits = mod-lt n (lit< tt) }

abbrev pub row_from : ℕ → ℕ → ℕ → ListingRow
row_from price seats seller = record {
  price = price % 2 ^ 32;
  seller = seller % 2 ^ 32;
  seats = seats % 2 ^ 16;
  fits = (mod-lt price (lit< tt), mod-lt seller (lit< tt), mod-lt seats (lit< tt));
}

abbrev pub row_read : Option ℕ → Option ℕ → Option ℕ → Option ListingRow
row_read (Some price) (Some seats) (Some seller) = Some (row_from price seats seller)
row_read (Some price) (Some seats) None = None
row_read (Some price) None seller = None
row_read None seats seller = None

-- exactly three parts: a price of 32 bits, a number of seats of 16 and a seller of 32
abbrev pub row_parts : List (List ℕ) → Option ListingRow
row_parts [] = None
row_parts (price ∷ []) = None
row_parts (price ∷ (seats ∷ [])) = None
row_parts (price ∷ (seats ∷ (seller ∷ []))) = row_read (decimal_of 4294967295 price) (decimal_of 65535 seats) (decimal_of 4294967295 seller)
row_parts (price ∷ (seats ∷ (seller ∷ (more ∷ others)))) = None

-- the parts of a row stand between commas
abbrev pub row_of : List ℕ → Option ListingRow
row_of value = row_parts (split 44 value)

abbrev pub record_read : Option ℕ → Option ListingRow → Option Record
record_read (Some n) (Some r) = Some (record { key = listing n; row = r })
record_read (Some n) None = None
record_read None r = None

-- the number of the word k=NUMBER
abbrev pub key_in : Meant → Option ℕ
key_in (key v) = decimal_of 18446744073709551615 v
key_in (call v) = None
key_in (session v) = None
key_in (mode v) = None
key_in (row v) = None
key_in (other w) = None

-- the row of the word v=PRICE,SEATS,SELLER
abbrev pub row_in : Meant → Option ListingRow
row_in (row v) = row_of v
row_in (call v) = None
row_in (session v) = None
row_in (mode v) = None
row_in (key v) = None
row_in (other w) = None

-- exactly two words, the key and then the row
abbrev pub record_words : List (List ℕ) → Option Record
record_words [] = None
record_words (k ∷ []) = None
record_words (k ∷ (v ∷ [])) = record_read (key_in (word_of k)) (row_in (word_of v))
record_words (k ∷ (v ∷ (more ∷ others))) = None

abbrev pub record_of : List ℕ → Option Record
record_of line = record_words (words line)
