-- What the sorted table means.
use Rattle.std.specs.Prelude.{ℕ, cond, List, map, Some, None, Ok, Err, Option, Result, ◌==◌}
use Rattle.std.specs.List.{prefix_len}
use Rattle.cold.specs.Cold.{Entry, below_by, is_there, told}
use Rattle.cold.specs.declared.sorted.Held.{Held}
use Rattle.cold.specs.declared.store.Found.{Found}

abbrev pub meant : {K R : Type 0} → (K → ℕ) → Held K R → Entry R
meant number h = record { number = number h.key; tag = h.tag; row = h.row }

abbrev pub table : {K R : Type 0} → (K → ℕ) → List (Held K R) → List (Entry R)
table number hs = map (meant number) hs

-- how many entries come before a key number and tag
abbrev pub place : {R : Type 0} → ℕ → ℕ → List (Entry R) → ℕ
place n t es = prefix_len (λ e. below_by e.number e.tag n t) es

-- the place of a key number and tag, or the place where they would go in
abbrev pub seat : {R : Type 0} → ℕ → ℕ → List (Entry R) → Result ℕ ℕ
seat n t es = cond (is_there n t es) (Ok (place n t es)) (Err (place n t es))

-- what a find tells of an entry, if it has the key
abbrev pub of_key : {R : Type 0} → ℕ → Entry R → Option (Found R)
of_key n e = cond (e.number == n) (Some (told e)) None
