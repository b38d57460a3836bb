-- What put and remove do to the bytes, against what they mean.
use Rattle.std.specs.Prelude.{◌≡◌, ℕ, zero, suc, ◌+◌, ◌-◌, ◌*◌, ◌/◌, ◌^◌, ◌<◌, ◌≤◌, Bool, true, false, cond, not, ◌&&◌, List, [], ◌∷◌, ◌++◌, map, length, get_or, take, drop, set, replicate, Some, None, Ok, Err, Option, Result, ◌==◌, ◌≢◌, nat_eq, nat_lt, slice_index, slice_index_or, slice_set}
use Rattle.std.proofs.Math.Path.{refl, ap}
use Rattle.std.proofs.Common.{sym, ◌∙◌, ⊎_elim, arith}
use Rattle.std.proofs.lemmas.Bool.{cond-true, cond-false, not-false, cases_lt, lt-ltb, le-ltb, ltb-true}
use Rattle.std.proofs.lemmas.List.{append_assoc, append-nil, take_at, drop_at, get_or_at, length-map, map-set, get_or-set_same, length-take, length-take-le, length-drop, get_or_append_left, get_or-append_right, get_or-take, get_or-drop}
use Rattle.keys.specs.Bytes.{low_bytes, from_low}
use Rattle.keys.specs.Low.{length_low, from_low_back, low_step, length_pushed}
use Rattle.std.specs.List.{prefix_len}
use Rattle.std.proofs.lemmas.List.Sums.{prefix_len-le-length, prefix_len_stops}
use Rattle.cold.specs.Cold.{Entry, is_there, removed_after, put_answer, put_after, in_order}
use Rattle.cold.specs.declared.store.ColdRefusal.{ColdRefusal}
use Rattle.cold.specs.declared.store.ColdRefusal.TheVariants.{There, Full}
use Rattle.cold.proofs.Meaning.{put_there, put_full, put_done}
use Rattle.cold.proofs.PutIn.{removed_none}
use Rattle.blocks.specs.Blocks.{entry_bytes, written, seat_of, free_of, bytes_answer, put_bytes, removed_bytes, part, byte, cut, is_used}
use Rattle.blocks.specs.Blocks.{number_of, tag_of, has_key}
use Rattle.blocks.specs.Cells.{cell, cells, gathered, entries_of}
use Rattle.blocks.specs.Cut.{length_cut, cut_written, cut_put, prefix_over, cut_replicate}
use Rattle.blocks.specs.Lent.{length_entry}
use Rattle.blocks.specs.Gather.{full, has, gathered_set, gathered_full, gathered_free, gathered_lacks, free_at, removes_cell}

-- a part that stands after p
part_at : (at k : ℕ) (p y q bs : List ℕ) → bs ≡ p ++ (y ++ q) → length p ≡ at → length y ≡ k → part at k bs ≡ y
unfolding part
part_at at k p y q bs e l m = ap (λ z. take k (drop at z)) e ∙ ap (take k) (drop_at p (y ++ q) at l) ∙ take_at y q k m

byte_at : (at : ℕ) (p : List ℕ) (y : ℕ) (q bs : List ℕ) → bs ≡ p ++ (y ∷ q) → length p ≡ at → byte at bs ≡ y
unfolding byte
byte_at at p y q bs e l = ap (λ z. slice_index z at) e ∙ get_or_at p y q 0 at l

full_by : {m n : ℕ} → m ≡ n → ◌≡◌ {A = Result (Unit {0}) ColdRefusal} (Err (Full m)) (Err (Full n))
full_by e = ap (λ k. Err (Full k)) e

module _ {R : Type 0} (unpacked : List ℕ → R) where
  same_entry : {m n s t : ℕ} {q r : R} → m ≡ n → s ≡ t → q ≡ r
      → ◌≡◌ {A = Option (Entry R)} (Some (record { number = m; tag = s; row = q })) (Some (record { number = n; tag = t; row = r }))
  same_entry e f g = cc

  -- what was filled in is read
  pub cell_filled : (n t : ℕ) (row : List ℕ) (r : R) → n < 2 ^ 64 → t < 2 ^ 32 → length row ≡ 16 → unpacked row ≡ r
      → cell unpacked (entry_bytes n t row) ≡ Some (record { number = n; tag = t; row = r })
  cell_filled n t row r h k l e =
      let a = low_bytes 8 n in
      let b = low_bytes 4 t in
      let f = low_bytes 4 1 in
      let la = length_low 8 n in
      let lb = length_low 4 t in
      let lf = length_low 4 1 in
      let u : byte 12 (entry_bytes n t row) ≡ 1 =
      byte_at 12 (a ++ b) 1 (low_bytes 3 0 ++ row) (entry_bytes n t row)
      (sym (append_assoc a b (f ++ row)) ∙ ap (λ z. (a ++ b) ++ (z ++ row)) (low_step 4 1 (omega arith))) (length_pushed a b 8 4 la lb) in
      cond-true (is_used (entry_bytes n t row)) _ None (ap (λ z. nat_eq z 1) u)
      ∙ same_entry
      (ap from_low (part_at 0 8 [] a (b ++ (f ++ row)) (entry_bytes n t row) refl refl la) ∙ from_low_back 8 n h)
      (ap from_low (part_at 8 4 a b (f ++ row) (entry_bytes n t row) refl la lb) ∙ from_low_back 4 t k)
      (ap unpacked (part_at 16 16 ((a ++ b) ++ f) row [] (entry_bytes n t row)
      (ap (λ z. a ++ (b ++ (f ++ z))) (sym (append-nil row))
      ∙ sym (append_assoc (a ++ b) f (row ++ []) ∙ append_assoc a b (f ++ (row ++ []))))
      (length_pushed (a ++ b) f 12 4 (length_pushed a b 8 4 la lb) lf) l) ∙ e)

  pub cell_cleared : (b : List ℕ) → 12 < length b → cell unpacked (slice_set b 12 0) ≡ None
  unfolding byte
  cell_cleared b h = cond-false (is_used (slice_set b 12 0)) _ None (ap (λ z. nat_eq z 1) (get_or-set_same b 12 0 0 h))

  pub full_cell : (b : List ℕ) → full (cell unpacked b) ≡ is_used b
  full_cell b = go (is_used b) (record { number = number_of b; tag = tag_of b; row = unpacked (part 16 16 b) })
    where
      go : (u : Bool) (e : Entry R) → full (cond u (Some e) None) ≡ u
      go true e = refl
      go false e = refl

  pub has_cell : (n t : ℕ) (b : List ℕ) → not (has n t (cell unpacked b)) ≡ not (has_key n t b)
  has_cell n t b = ap not (go (is_used b) (record { number = number_of b; tag = tag_of b; row = unpacked (part 16 16 b) }))
    where
      go : (u : Bool) (e : Entry R) → has n t (cond u (Some e) None) ≡ (u && (e.number == n && e.tag == t))
      go true e = refl
      go false e = refl

  module _ (limit : ℕ) (xs : List ℕ) where
    abbrev cs : List (Option (Entry R))
    cs = cells unpacked limit xs

    abbrev es : List (Entry R)
    es = entries_of unpacked limit xs

    pub length_cells : length cs ≡ limit
    length_cells = length-map (cut 32 limit xs) (cell unpacked) ∙ length_cut 32 limit xs

    module _ (n t at : ℕ) (is : at ≡ prefix_len (λ b. not (has_key n t b)) (cut 32 limit xs)) where
      seat_is : at ≡ prefix_len (λ c. not (has n t c)) cs
      seat_is = is ∙ sym (prefix_over (cell unpacked) (λ c. not (has n t c)) (λ b. not (has_key n t b)) (cut 32 limit xs) (has_cell n t))

      pub lacks : limit ≤ at → is_there n t es ≡ false
      lacks h = let l = length_cells in let f = prefix_len-le-length (λ c. not (has n t c)) cs in let s = seat_is in gathered_lacks n t cs (omega arith)

      -- the place that has the key and tag, and what is left if it is cleared
      pub seated : at < limit → in_order es ≡ true → (is_there n t es ≡ true) × (gathered (slice_set cs at None) ≡ removed_after es n t)
      seated h o =
          let l = length_cells in
          let s = seat_is in
          let f = prefix_len_stops (λ c. not (has n t c)) cs None (omega arith) in
          removes_cell n t cs at o (not-false (has n t (slice_index_or cs at None)) (ap (λ k. not (has n t (slice_index_or cs k None))) s ∙ f))

    module _ (at : ℕ) (is : at ≡ prefix_len is_used (cut 32 limit xs)) where
      free_is : at ≡ prefix_len full cs
      free_is = is ∙ sym (prefix_over (cell unpacked) full is_used (cut 32 limit xs) full_cell)

      pub none_free : limit ≤ at → length es ≡ limit
      none_free h = let l = length_cells in let f = prefix_len-le-length full cs in let s = free_is in gathered_full cs (omega arith) ∙ l

      pub some_free : at < limit → (length es < limit) × (slice_index_or cs at None ≡ None)
      some_free h =
          let l = length_cells in
          let s = free_is in
          let f = gathered_free cs (omega arith) in
          (omega arith, free_at (slice_index_or cs at None) (ap (λ k. full (slice_index_or cs k None)) s ∙ prefix_len_stops full cs None (omega arith)))

    -- one block is filled
    pub cells_filled : (at n t : ℕ) (row : List ℕ) (r : R) → at < limit → 32 * limit ≤ length xs → n < 2 ^ 64 → t < 2 ^ 32 → length row ≡ 16
        → unpacked row ≡ r
        → cells unpacked limit (written xs (32 * at) (entry_bytes n t row)) ≡ slice_set cs at (Some (record { number = n; tag = t; row = r }))
    cells_filled at n t row r h l a b m e =
        let k = length_entry n t row m in
        ap (map (cell unpacked)) (cut_written 32 limit at (32 * at) xs (entry_bytes n t row) h l k refl)
        ∙ map-set (cell unpacked) (cut 32 limit xs) at (entry_bytes n t row) ∙ ap (set cs at) (cell_filled n t row r a b m e)

    -- one block is cleared
    pub cells_cleared : (at : ℕ) → at < limit → 32 * limit ≤ length xs → cells unpacked limit (slice_set xs (32 * at + 12) 0) ≡ slice_set cs at None
    unfolding part
    cells_cleared at h l =
        let k : 12 < length (part (32 * at) 32 xs) = simp (length-take, length-drop) (omega arith) in
        ap (map (cell unpacked)) (cut_put 32 limit at 12 (32 * at + 12) xs 0 h (omega arith) refl)
        ∙ map-set (cell unpacked) (cut 32 limit xs) at (slice_set (part (32 * at) 32 xs) 12 0) ∙ ap (set cs at) (cell_cleared (part (32 * at) 32 xs) k)

    -- what put answers and leaves means what it should
    module _ (n t : ℕ) (row : List ℕ) (r : R) (l : 32 * limit ≤ length xs) (a : n < 2 ^ 64) (b : t < 2 ^ 32) (m : length row ≡ 16)
        (e : unpacked row ≡ r) (o : in_order es ≡ true) where
      abbrev Puts : Type 0
      Puts = (bytes_answer limit xs n t ≡ put_answer limit es n t)
          × (entries_of unpacked limit (put_bytes limit xs n t row) ≡ put_after limit es n t r)

      puts_there : seat_of limit xs n t < limit → Puts
      puts_there h =
          let v = put_there limit es n t r (seated n t (seat_of limit xs n t) refl h o).0 in
          let c = lt-ltb (seat_of limit xs n t) limit h in
          (cond-true _ (Err There) _ c ∙ sym v.0, ap (entries_of unpacked limit) (cond-true _ xs _ c) ∙ sym v.1)

      puts_done : limit ≤ seat_of limit xs n t → free_of limit xs < limit → Puts
      puts_done h k =
          let d = lacks n t (seat_of limit xs n t) refl h in
          let c = le-ltb (seat_of limit xs n t) limit h in
          let q = lt-ltb (free_of limit xs) limit k in
          let f = some_free (free_of limit xs) refl k in
          let lc = length_cells in
          let w = ap gathered (cells_filled (free_of limit xs) n t row r k l a b m e)
          ∙ gathered_set cs (free_of limit xs) (record { number = n; tag = t; row = r }) (omega arith) f.1 d in
          let v = put_done limit es n t r d (λ z. let y : ⊥ = omega (arith, f.0, z) in y) in (
            cond-false _ (Err There) _ c ∙ cond-true _ (Ok tt) _ q ∙ sym v.0,
            ap (entries_of unpacked limit) (cond-false _ xs _ c ∙ cond-true _ _ xs q) ∙ w ∙ sym v.1,
          )

      puts_full : limit ≤ seat_of limit xs n t → limit ≤ free_of limit xs → Puts
      puts_full h k =
          let c = le-ltb (seat_of limit xs n t) limit h in
          let q = le-ltb (free_of limit xs) limit k in
          let f = none_free (free_of limit xs) refl k in
          let v = put_full limit es n t r (lacks n t (seat_of limit xs n t) refl h) f in (
            cond-false _ (Err There) _ c ∙ cond-false _ (Ok tt) _ q ∙ full_by (sym f) ∙ sym v.0,
            ap (entries_of unpacked limit) (cond-false _ xs _ c ∙ cond-false _ _ xs q) ∙ sym v.1,
          )

      pub puts : Puts
      puts =
          ⊎_elim (λ (h : seat_of limit xs n t < limit). puts_there h)
          (λ (h : limit ≤ seat_of limit xs n t). ⊎_elim (λ (k : free_of limit xs < limit). puts_done h k)
          (λ (k : limit ≤ free_of limit xs). puts_full h k) (cases_lt (free_of limit xs) limit))
          (cases_lt (seat_of limit xs n t) limit)

    -- and so does what remove answers and leaves
    pub removes : (n t : ℕ) → 32 * limit ≤ length xs → in_order es ≡ true
        → (nat_lt (seat_of limit xs n t) limit ≡ is_there n t es) × (entries_of unpacked limit (removed_bytes limit xs n t) ≡ removed_after es n t)
    removes n t l o =
        ⊎_elim
        (λ (h : seat_of limit xs n t < limit).
        let v = seated n t (seat_of limit xs n t) refl h o in
        let c = lt-ltb (seat_of limit xs n t) limit h in
        (c ∙ sym v.0, ap (entries_of unpacked limit) (cond-true _ _ xs c) ∙ ap gathered (cells_cleared (seat_of limit xs n t) h l) ∙ v.1))
        (λ (h : limit ≤ seat_of limit xs n t).
        let d = lacks n t (seat_of limit xs n t) refl h in
        let c = le-ltb (seat_of limit xs n t) limit h in
        (c ∙ sym d, ap (entries_of unpacked limit) (cond-false _ _ xs c) ∙ sym (removed_none n t es d)))
        (cases_lt (seat_of limit xs n t) limit)

  -- a new store is empty
  pub new_empty : (limit : ℕ) → entries_of unpacked limit (replicate (32 * limit) 0) ≡ []
  unfolding gathered byte
  new_empty limit = ap (λ bs. gathered (map (cell unpacked) bs)) (cut_replicate 32 limit 0) ∙ go limit
    where
      go : (n : ℕ) → gathered (map (cell unpacked) (replicate n (replicate 32 0))) ≡ []
      go zero = refl
      go (suc n) = go n

-- a byte of another place is as it was
written_other : (xs ys : List ℕ) (at i k : ℕ) → at ≡ 32 * i → length ys ≡ 32 → at + 32 ≤ length xs → (k / 32 ≢ i)
    → slice_index (written xs at ys) k ≡ slice_index xs k
written_other xs ys at i k e l h n =
    let m = length-take-le at xs (omega arith) in
    ⊎_elim (λ (p : k < at). get_or_append_left (take at xs) (ys ++ drop (at + length ys) xs) 0 k (omega arith) ∙ get_or-take at xs k 0 p)
    (λ (p : at ≤ k). ⊎_elim
    (λ (q : k < at + 32). absurd (n (let z : k / 32 ≡ i = omega arith in z)))
    (λ (q : at + 32 ≤ k).
    let z : at + length ys + (k - at - 32) ≡ k = omega arith in
    get_or-append_right (take at xs) (ys ++ drop (at + length ys) xs) at k 0 m p
    ∙ get_or-append_right ys (drop (at + length ys) xs) 32 (k - at) 0 l (omega arith) ∙ get_or-drop (at + length ys) xs (k - at - 32) 0
    ∙ ap (λ j. slice_index xs j) z)
    (cases_lt k (at + 32)))
    (cases_lt k at)

-- what put leaves of the other places
pub put_other : (limit : ℕ) (xs : List ℕ) (n t : ℕ) (row : List ℕ) (k : ℕ) → 32 * limit ≤ length xs → length row ≡ 16
    → (k / 32 ≢ free_of limit xs)
    → slice_index (put_bytes limit xs n t row) k ≡ slice_index xs k
put_other limit xs n t row k l m d = go (nat_lt (seat_of limit xs n t) limit) (nat_lt (free_of limit xs) limit) refl
  where
    go : (b q : Bool) → nat_lt (free_of limit xs) limit ≡ q → get_or (cond b xs (cond q (written xs (32 * free_of limit xs) (entry_bytes n t row)) xs))
        k 0 ≡ slice_index xs k
    go true q f = refl
    go false false f = refl
    go false true f =
        let h = ltb-true (free_of limit xs) limit f in
        written_other xs (entry_bytes n t row) (32 * free_of limit xs) (free_of limit xs) k refl (length_entry n t row m) (omega arith) d
