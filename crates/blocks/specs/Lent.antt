-- The 32 bytes of an entry, written part by part into a lent part of the store.
use Rattle.std.specs.Prelude.{◌≡◌, ℕ, ◌+◌, ◌≤◌, Bool, true, false, cond, List, [], ◌++◌, length, take, drop, ◌==◌, refl}
use Rattle.std.proofs.Common.{sym, ◌∙◌, ap, arith}
use borrow.Rule.Slice.PartMut.{put_mid, post_of}
use Rattle.std.proofs.lemmas.List.{append_assoc, append-nil, take_all, drop_all, drop-drop, length-append, length-take-le, length-drop}
use Rattle.std.proofs.lemmas.Bool.{eqb-false}
use Rattle.keys.specs.Packing.{laid}
use Rattle.keys.specs.Low.{laid_more, laid_all, length_low, length_pushed}
use Rattle.blocks.specs.Blocks.{entry_bytes, written}

pub length_entry : (n t : ℕ) (row : List ℕ) → length row ≡ 16 → length (entry_bytes n t row) ≡ 32
length_entry n t row m =
    let la = length_low 8 n in
    let lb = length_low 4 t in
    let lf = length_low 4 1 in
    simp length-append (omega arith)

-- four writes one after another fill 32 bytes
pub tile32 : (xs a b c d : List ℕ) → length xs ≡ 32 → length a ≡ 8 → length b ≡ 4 → length c ≡ 4 → length d ≡ 16
    → put_mid 16 16 (put_mid 12 4 (put_mid 8 4 (a ++ post_of 0 8 xs) b) c) d ≡ a ++ (b ++ (c ++ d))
tile32 xs a b c d l m n o p =
    let e2 = laid_more 8 4 a b xs _ m refl in
    let l2 = length_pushed a b 8 4 m n in
    let e3 = laid_more 12 4 (a ++ b) c xs _ l2 e2 in
    let l3 = length_pushed (a ++ b) c 12 4 l2 o in
    let e4 = laid_more 16 16 ((a ++ b) ++ c) d xs _ l3 e3 in
    laid_all 32 (((a ++ b) ++ c) ++ d) xs _ (omega arith) e4 ∙ simp append_assoc

-- 16 bytes that the packer left are the packed row
pub laid_by : (row out ys : List ℕ) → length ys ≡ 16 → ys ≡ laid row out → ys ≡ row
laid_by row out ys l e = go (length out == 16) refl e
  where
    go : (b : Bool) → (length out == 16) ≡ b → ys ≡ cond b row out → ys ≡ row
    go true f e = e
    go false f e = absurd (eqb-false (length out) 16 f (ap length (sym e) ∙ l))

-- a part of a Vec that was lent, written and given back
pub given_back : (items cur part : List ℕ) (len at k n : ℕ) → cur ≡ items → len ≡ length items → at + k ≤ length items → length part ≡ k → n ≡ at
    → take len (put_mid at k cur part ++ drop (length (put_mid at k cur part)) items) ≡ written items n part
given_back items cur part len at k n e l h m q =
    let f : put_mid at k cur part ≡ written items at part =
    ap (λ z. put_mid at k z part) e ∙ ap (λ z. take at items ++ (part ++ z)) (drop-drop k at items)
    ∙ ap (λ j. take at items ++ (part ++ drop (at + j) items)) (sym m) in
    let g : length (written items at part) ≡ length items = simp (length-append, length-drop, length-take-le at items (omega arith)) (omega arith) in
    let d : drop (length (written items at part)) items ≡ [] = drop_all _ items (omega arith) in
    ap (λ z. take len (z ++ drop (length z) items)) f ∙ ap (λ z. take len (written items at part ++ z)) d
    ∙ ap (take len) (append-nil (written items at part)) ∙ take_all len (written items at part) (omega arith)
    ∙ ap (λ i. written items i part) (sym q)
