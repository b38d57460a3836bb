-- The entries that the bytes of a block store mean.
use Rattle.std.specs.Prelude.{ℕ, cond, List, [], ◌∷◌, map, Some, None, Option}
use Rattle.cold.specs.Cold.{Entry, put_in}
use Rattle.blocks.specs.Blocks.{part, cut, is_used, number_of, tag_of}

module _ {R : Type 0} where
  -- the entry of a block, if it is used
  abbrev pub cell : (List ℕ → R) → List ℕ → Option (Entry R)
  cell unpacked b = cond (is_used b) (Some (record { number = number_of b; tag = tag_of b; row = unpacked (part 16 16 b) })) None

  abbrev pub cells : (List ℕ → R) → ℕ → List ℕ → List (Option (Entry R))
  cells unpacked limit xs = map (cell unpacked) (cut 32 limit xs)

  abbrev pub with_cell : Option (Entry R) → List (Entry R) → List (Entry R)
  with_cell None es = es
  with_cell (Some e) es = put_in e es

  -- the entries of the used cells, each put in where the order has it
  unfoldable pub gathered : List (Option (Entry R)) → List (Entry R)
  gathered [] = []
  gathered (c ∷ cs) = with_cell c (gathered cs)

  abbrev pub entries_of : (List ℕ → R) → ℕ → List ℕ → List (Entry R)
  entries_of unpacked limit xs = gathered (cells unpacked limit xs)
