-- The entries of an archive's text: a line each, in rising order of their keys.
use Rattle.std.specs.Prelude.{ℕ, Bool, true, cond, List, [], ◌∷◌, Some, None, Option, Ok, Err, Result, nat_lt}
use Rattle.keys.specs.declared.listing.Listing.{Listing}
use Rattle.text.specs.Parts.{lines_left}
use Rattle.records.specs.Reading.{record_of}
use Rattle.records.specs.declared.entries.Entries.{Entries}
use Rattle.records.specs.declared.record.BadLine.{BadLine}
use Rattle.records.specs.declared.record.Record.{Record}

-- what a line holds: a record, or nothing that can be served
abbrev pub Entry : Type 0
Entry = Result Record BadLine

abbrev pub bad_line : BadLine
bad_line = record {}

-- whether a key is above the last one, if there was one
abbrev pub above : Option Listing → Listing → Bool
above None k = true
above (Some last) k = nat_lt last.id k.id

-- a record is served if its key is above the last one
abbrev pub served : Option Listing → Option Record → Entry
served last None = Err bad_line
served last (Some r) = cond (above last r.key) (Ok r) (Err bad_line)

abbrev pub entry_of : Option Listing → List ℕ → Entry
entry_of last line = served last (record_of line)

-- the last key after an entry
abbrev pub key_after : Option Listing → Entry → Option Listing
key_after last (Ok r) = Some r.key
key_after last (Err b) = last

-- the entries of lines that follow a record of key `last`
unfoldable pub entries : Option Listing → List (List ℕ) → List Entry
entries last [] = []
entries last (line ∷ others) = entry_of last line ∷ entries (key_after last (entry_of last line)) others

-- the entries that a reader has still to give
abbrev pub entries_left : Entries → List Entry
entries_left e = entries e.last (lines_left e.lines)
