-- What put and remove leave of the bytes keeps the store's invariants.
use Rattle.std.proofs.Common.{◌≡◌, ℕ, ◌+◌, ◌*◌, ◌^◌, ◌<◌, ◌≤◌, Bool, true, false, cond, not, is_some, ltb, List, ◌++◌, length, take, drop, set, Some, refl, ap, sym, ◌∙◌, arith}
use borrow.Rule.Slice.PartMut.{put_mid}
use Rattle.std.specs.List.{position}
use Rattle.std.proofs.lemmas.Bool.{cond-true, cond-false, ltb-true}
use Rattle.cold.specs.Lists.{all}
use Rattle.cold.specs.Cold.{in_order}
use Rattle.cold.proofs.Meaning.{order_put, order_removed}
use Rattle.blocks.specs.Blocks.{entry_bytes, written, cut, is_used, has_key, is_tidy, seat_of, free_of, put_bytes, removed_bytes}
use Rattle.blocks.specs.Cells.{entries_of}
use Rattle.blocks.specs.Effects.{puts, removes}
use Rattle.blocks.specs.Lent.{given_back, length_entry}
use Rattle.blocks.proofs.FirstPlace.{seat_some, seat_none, free_some}
use Rattle.blocks.proofs.Tidy.{filled_kept, cleared_kept}

-- an entry in the first free place, where its key and tag have none
pub put_free : (limit n t place len at k : ℕ) (xs cur part row : List ℕ) → cur ≡ xs → len ≡ length xs → at ≡ place * 32 → k ≡ 32 → 32 * limit ≤ length xs
    → part ≡ entry_bytes n t row → length row ≡ 16
    → is_some (position (has_key n t) (cut 32 limit xs)) ≡ false → Some place ≡ position (λ b. not (is_used b)) (cut 32 limit xs)
    → take len (put_mid at k cur part ++ drop (length (put_mid at k cur part)) xs) ≡ put_bytes limit xs n t row
put_free limit n t place len at k xs cur part row e l m o b p r s f =
    let d = seat_none limit xs n t s in
    let q = free_some limit xs place f in
    let w : place < limit = omega (arith, q.1, ltb-true (free_of limit xs) limit q.0) in
    let h : length part ≡ k = ap length p ∙ length_entry n t row r ∙ sym o in
    given_back xs cur part len at k (32 * place) e l (omega (arith, w)) h (omega arith)
    ∙ ap (written xs (32 * place)) p ∙ ap (λ i. written xs (32 * i) (entry_bytes n t row)) q.1
    ∙ sym (cond-false _ xs _ d ∙ cond-true _ _ xs q.0)

-- the place of a key and tag cleared
pub removed_seat : (limit n t place : ℕ) (xs : List ℕ) → Some place ≡ position (has_key n t) (cut 32 limit xs)
    → set xs (place * 32 + 12) 0 ≡ removed_bytes limit xs n t
removed_seat limit n t place xs e =
    let q = seat_some limit xs n t place e in
    let k : place * 32 + 12 ≡ 32 * seat_of limit xs n t + 12 = omega (arith, q.1) in
    ap (λ i. set xs i 0) k ∙ sym (cond-true _ _ xs q.0)

module _ (limit n t : ℕ) (xs : List ℕ) (l : 32 * limit ≤ length xs) where
  pub put_tidy : (row : List ℕ) → length row ≡ 16 → all is_tidy (cut 32 limit xs) ≡ true → all is_tidy (cut 32 limit (put_bytes limit xs n t row)) ≡ true
  put_tidy row m o = go (ltb (seat_of limit xs n t) limit) (ltb (free_of limit xs) limit) refl
    where
      go : (b q : Bool) → ltb (free_of limit xs) limit ≡ q
          → all is_tidy (cut 32 limit (cond b xs (cond q (written xs (32 * free_of limit xs) (entry_bytes n t row)) xs))) ≡ true
      go true q f = o
      go false true f = filled_kept limit (free_of limit xs) n t xs row (ltb-true (free_of limit xs) limit f) l m o
      go false false f = o

  pub removed_tidy : all is_tidy (cut 32 limit xs) ≡ true → all is_tidy (cut 32 limit (removed_bytes limit xs n t)) ≡ true
  removed_tidy o = go (ltb (seat_of limit xs n t) limit) refl
    where
      go : (b : Bool) → ltb (seat_of limit xs n t) limit ≡ b → all is_tidy (cut 32 limit (cond b (set xs (32 * seat_of limit xs n t + 12) 0) xs)) ≡ true
      go true f = cleared_kept limit (seat_of limit xs n t) xs (ltb-true (seat_of limit xs n t) limit f) o
      go false f = o

  module _ {R : Type 0} (unpacked : List ℕ → R) (o : in_order (entries_of unpacked limit xs) ≡ true) where
    pub put_ordered : (row : List ℕ) (r : R) → n < 2 ^ 64 → t < 2 ^ 32 → length row ≡ 16 → unpacked row ≡ r
        → in_order (entries_of unpacked limit (put_bytes limit xs n t row)) ≡ true
    put_ordered row r a b m e = ap in_order (puts unpacked limit xs n t row r l a b m e o).1 ∙ order_put limit n t r (entries_of unpacked limit xs) o

    pub removed_ordered : in_order (entries_of unpacked limit (removed_bytes limit xs n t)) ≡ true
    removed_ordered = ap in_order (removes unpacked limit xs n t l o).1 ∙ order_removed n t (entries_of unpacked limit xs) o
