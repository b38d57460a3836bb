use Rattle.std.proofs.Common.{◌≡◌, ℕ, suc, ◌≤◌, List, [], ◌∷◌, length, None, Option, Ok, Err, sym, refl, ap, ◌∙◌, arith}
use Rattle.keys.specs.declared.listing.Listing.{Listing}
use Rattle.text.specs.Parts.{lines}
use Rattle.text.proofs.Cuts.{length_lines}
use Rattle.records.specs.Entries.{Entry, entry_of, key_after, entries}
use Rattle.records.specs.Writing.{is_good, count_good}

-- with no line left there is no entry left
pub entries_none : (last : Option Listing) (ls : List (List ℕ)) → ls ≡ [] → entries last ls ≡ []
unfolding entries
entries_none last ls e = ap (entries last) e

-- the next line gives the next entry
pub entries_more : (last after : Option Listing) (ls rest : List (List ℕ)) (line : List ℕ) (e : Entry) → ls ≡ line ∷ rest
    → e ≡ entry_of last line → after ≡ key_after last e → entries last ls ≡ e ∷ entries after rest
unfolding entries
entries_more last after ls rest line e d f g =
    ap (entries last) d ∙ ap (λ x. x ∷ entries (key_after last x) rest) (sym f) ∙ ap (λ k. e ∷ entries k rest) (sym g)

length_entries : (last : Option Listing) (ls : List (List ℕ)) → length (entries last ls) ≡ length ls
unfolding entries
length_entries last [] = refl
length_entries last (l ∷ ls) = ap suc (length_entries (key_after last (entry_of last l)) ls)

good_le : (e : Entry) → is_good e ≤ 1
good_le (Ok r) = omega arith
good_le (Err b) = omega arith

count_le : (es : List Entry) → count_good es ≤ length es
unfolding count_good
count_le [] = omega arith
count_le (e ∷ es) = omega (arith, good_le e, count_le es)

-- an input has no more records than bytes
pub count_fits : (input : List ℕ) → count_good (entries None (lines input)) ≤ length input
count_fits input = omega (arith, count_le (entries None (lines input)), length_entries None (lines input), length_lines input)
