-- The text of a row.
use Rattle.std.specs.Prelude.{ℕ, List, ◌++◌, codes}
use Rattle.std.specs.Fmt.{decimal}
use Rattle.keys.specs.declared.rows.ListingRow.{ListingRow}

-- PRICE,SEATS,SELLER
abbrev pub row_text : ListingRow → List ℕ
row_text r = decimal r.price ++ (codes "," ++ (decimal r.seats ++ (codes "," ++ decimal r.seller)))
