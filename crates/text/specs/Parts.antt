-- A text cut at a byte: the parts of a line between its spaces, and the lines of an input.
use Rattle.std.specs.Prelude.{ℕ, suc, cond, List, [], ◌∷◌, ◌++◌, Some, None, Option, ◌==◌}
use Rattle.std.specs.Option.{option_map}
use Rattle.text.specs.declared.lines.Lines.{Lines}
use Rattle.text.specs.declared.parts.Parts.{Parts}

-- how many bytes come before the first byte `at`
unfoldable pub count_to : ℕ → List ℕ → ℕ
count_to at [] = 0
count_to at (b ∷ bs) = cond (b == at) 0 (suc (count_to at bs))

-- a byte put before the first part; where there is no part, it is one
abbrev pub onto : ℕ → List (List ℕ) → List (List ℕ)
onto b [] = (b ∷ []) ∷ []
onto b (part ∷ others) = (b ∷ part) ∷ others

-- each byte `at` ends a part; `last` is what stands after all bytes
unfoldable pub cut : ℕ → List (List ℕ) → List ℕ → List (List ℕ)
cut at last [] = last
cut at last (b ∷ bs) = cond (b == at) ([] ∷ cut at last bs) (onto b (cut at last bs))

-- the parts between the bytes `at`, one more than there are such bytes: two of them in a row have an empty part between them
abbrev pub split : ℕ → List ℕ → List (List ℕ)
split at bs = cut at ([] ∷ []) bs

-- the lines of an input: a newline ends a line, and what follows the last newline is a line unless it is empty
abbrev pub lines : List ℕ → List (List ℕ)
lines bs = cut 10 [] bs

-- parts with the byte `at` between each two
unfoldable pub join : ℕ → List (List ℕ) → List ℕ
join at [] = []
join at (part ∷ []) = part
join at (part ∷ (next ∷ others)) = part ++ (at ∷ join at (next ∷ others))

abbrev pub first : {X : Type 0} → List X → Option X
first [] = None
first (x ∷ xs) = Some x

-- the parts of a text that may have ended
abbrev pub unread : ℕ → Option (List ℕ) → List (List ℕ)
unread at None = []
unread at (Some bs) = split at bs

-- the parts that a reader has still to give
abbrev pub left : Parts → List (List ℕ)
left p = unread p.at (option_map (λ r. r.now) p.rest)

-- the lines that a reader has still to give
abbrev pub lines_left : Lines → List (List ℕ)
lines_left l = lines l.rest.now
