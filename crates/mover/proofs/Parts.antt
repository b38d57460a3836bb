-- The counts and lengths of lent tables, and an edit of a list where none passes.
use Rattle.std.proofs.Common.{◌≡◌, ℕ, ◌≤◌, min, Bool, true, false, ltb, leb, List, [], ◌∷◌, length, take, sym, refl, ap, inl, inr, arith}
use Rattle.std.proofs.lemmas.List.{length-take-le}
use Rattle.std.proofs.lemmas.Bool.{cases_Bool, and_parts, eqb-true, cond_both}
use Rattle.slots.specs.Lists.{any, at_first, count_without}
use Rattle.rules.specs.declared.sheet.Room.{Room}
use Rattle.rules.specs.Stores.{Lengths, same_lengths}

-- lent lengths that are the opening's
pub memos_are : (a b : Lengths) → true ≡ same_lengths a b → a.memos ≡ b.memos
memos_are a b e = eqb-true _ _ (and_parts _ _ (and_parts _ _ (sym e)).1).0

-- whether a slot is left, by the list's length as by its count
pub room_left : {X : Type 0} (room : Room) (xs : List X) → length xs ≡ room.length → leb room.length (length (take room.used xs)) ≡ leb room.length room.used
room_left room xs l = let h = room.fits in ap (leb room.length) (length-take-le room.used xs (omega arith))

pub count_without_within : (room used at : ℕ) → count_without room used at ≤ used
count_without_within room used at =
    cond_both (ltb at (min used room)) _ _ (λ (n : ℕ). n ≤ used) (λ _. omega arith) (λ _. omega arith)

-- where none passes there is nothing to edit
pub none_edited : {X : Type 0} (p : X → Bool) (f : X → List X) (xs : List X) → false ≡ any p xs → at_first p f xs ≡ xs
unfolding any at_first
none_edited p f [] h = refl
none_edited p f (x ∷ xs) h = elim (cases_Bool (p x)) [
  | inl e ↦ absurd (cc (rw e at h))
  | inr e ↦ rw e (ap (λ z. x ∷ z) (none_edited p f xs (rw e at h)))
]
