-- What the shape of a cell says of its parts, and how a fact of every cell is joined from one cell and the others.
use Rattle.std.proofs.Common.{◌≡◌, ℕ, ◌≤◌, Bool, true, false, ◌&&◌, eqb, ◌⊎◌, List, [], length, refl, subst, inl, inr, arith, None}
use Rattle.std.proofs.lemmas.Bool.{cases_Bool, eqb-true, eq-eqb, and_parts}
use Rattle.rules.specs.declared.tables.HotRow.{HotRow}
use Rattle.rules.specs.declared.tables.MoveMark.{MoveMark}
use Rattle.rules.specs.declared.tables.Notice.{Notice}
use Rattle.rules.specs.declared.times.Moment.TheVariants as moment
use Rattle.rules.specs.declared.tables.MoveMark.TheVariants.{Unmoved, Chosen, Copied}
use Rattle.cold.specs.Cold.{Entry}
use Rattle.slots.specs.Lists.{one}
use Rattle.cells.proofs.Cells.{Cell, Pending, c_empty, c_plain, c_idle, c_chosen, c_copied, c_begun, c_ended, c_both, c_emptied}

-- Cells go by pairs of a key number and a tag. The pair i, j is the pair k, t
abbrev pub same_pair : ℕ → ℕ → ℕ → ℕ → Bool
same_pair i j k t = eqb i k && eqb j t

pub pair_self : (i j : ℕ) → same_pair i j i j ≡ true
pair_self i j = rw (eq-eqb i i refl, eq-eqb j j refl)

-- what holds of one pair and of each other pair holds of all
pub every_pair : (i j : ℕ) (P : ℕ → ℕ → Type 0) → P i j → ((k t : ℕ) → same_pair i j k t ≡ false → P k t) → (k t : ℕ) → P k t
every_pair i j P here others k t = elim (cases_Bool (same_pair i j k t)) [
  | inl p ↦ let q = and_parts (eqb i k) (eqb j t) p in
      subst (λ n. P n t) (eqb-true i k q.0) (subst (λ n. P i n) (eqb-true j t q.1) here)
  | inr p ↦ others k t p
]

-- no list has one element and none
pub none_and_one : {X : Type 0} (A : Type 0) {xs : List X} {x : X} → xs ≡ [] → xs ≡ one x → A
none_and_one A p q = absurd cc

module _ {R : Type 0} where
  -- the entries of a cell, by the move mark of its row: none before the copy, the row's own after it
  abbrev pub Held : MoveMark → R → List (Entry R) → Type 0
  Held Unmoved r es = ⊥
  Held (Chosen t) r es = es ≡ []
  Held (Copied t) r es = (c : Entry R) × (es ≡ one c) × (c.row ≡ r)

module _ {K R : Type 0} where
  -- what stands in a cell with the row h on the move
  pub record UnderMove (h : HotRow K R) (ns : List (Notice K)) (es : List (Entry R)) : Type 0 where
    pub note : Notice K
    pub notes : ns ≡ one note
    pub waits : Pending note
    pub stamp : ℕ
    pub begins : h.begin ≡ moment.Stamp stamp
    pub ends : h.end ≡ None
    pub held : Held h.mark h.row es

  pub cell_eq : {h : ℕ} {ns ns' : List (Notice K)} {es es' : List (Entry R)} {ms ms' : List (HotRow K R)}
      → ns' ≡ ns → es' ≡ es → ms' ≡ ms → Cell h ns es ms → Cell h ns' es' ms'
  cell_eq p q r c = rw (p, q, r) c

  pub few_notes : (h : ℕ) (ns : List (Notice K)) (es : List (Entry R)) (ms : List (HotRow K R)) → Cell h ns es ms → length ns ≤ 1
  few_notes h ns es ms (c_empty p q z) = rw p (omega arith)
  few_notes h ns es ms (c_plain c p q z) = rw p (omega arith)
  few_notes h ns es ms (c_idle n p q u z) = rw p (omega arith)
  few_notes h ns es ms (c_chosen n m i p q u z t a x y) = rw p (omega arith)
  few_notes h ns es ms (c_copied n m i c p q u z t a x y v) = rw p (omega arith)
  few_notes h ns es ms (c_begun n c p q u x z) = rw p (omega arith)
  few_notes h ns es ms (c_ended n c p q u x z ne) = rw p (omega arith)
  few_notes h ns es ms (c_both n c p q x z ne) = rw p (omega arith)
  few_notes h ns es ms (c_emptied n p q u v x z) = rw p (omega arith)

  pub few_entries : (h : ℕ) (ns : List (Notice K)) (es : List (Entry R)) (ms : List (HotRow K R)) → Cell h ns es ms → length es ≤ 1
  few_entries h ns es ms (c_empty p q z) = rw q (omega arith)
  few_entries h ns es ms (c_plain c p q z) = rw q (omega arith)
  few_entries h ns es ms (c_idle n p q u z) = u
  few_entries h ns es ms (c_chosen n m i p q u z t a x y) = rw u (omega arith)
  few_entries h ns es ms (c_copied n m i c p q u z t a x y v) = rw u (omega arith)
  few_entries h ns es ms (c_begun n c p q u x z) = rw x (omega arith)
  few_entries h ns es ms (c_ended n c p q u x z ne) = rw x (omega arith)
  few_entries h ns es ms (c_both n c p q x z ne) = rw x (omega arith)
  few_entries h ns es ms (c_emptied n p q u v x z) = rw x (omega arith)

  -- no row moves without a notice
  pub no_notice : (h : ℕ) (ns : List (Notice K)) (es : List (Entry R)) (ms : List (HotRow K R)) → Cell h ns es ms → ns ≡ [] → ms ≡ []
  no_notice h ns es ms (c_empty p q z) g = z
  no_notice h ns es ms (c_plain c p q z) g = z
  no_notice h ns es ms (c_idle n p q u z) g = z
  no_notice h ns es ms (c_chosen n m i p q u z t a x y) g = none_and_one _ g p
  no_notice h ns es ms (c_copied n m i c p q u z t a x y v) g = none_and_one _ g p
  no_notice h ns es ms (c_begun n c p q u x z) g = z
  no_notice h ns es ms (c_ended n c p q u x z ne) g = z
  no_notice h ns es ms (c_both n c p q x z ne) g = z
  no_notice h ns es ms (c_emptied n p q u v x z) g = z

  -- the cell of a row on the move
  pub under_move : (h : ℕ) (ns : List (Notice K)) (es : List (Entry R)) (ms : List (HotRow K R)) (x : HotRow K R)
      → Cell h ns es ms → ms ≡ one x → UnderMove x ns es
  under_move h ns es ms r (c_empty p q z) g = none_and_one _ z g
  under_move h ns es ms r (c_plain c p q z) g = none_and_one _ z g
  under_move h ns es ms r (c_idle n p q u z) g = none_and_one _ z g
  under_move h ns es ms r (c_chosen n m i p q u z t a x y) g =
      let s : m ≡ r = cc in
      let mark : Chosen t ≡ r.mark = cc in
      record { note = n; notes = p; waits = q; stamp = i; begins = cc; ends = cc; held = subst (λ k. Held k r.row es) mark u }
  under_move h ns es ms r (c_copied n m i c p q u z t a x y v) g =
      let s : m ≡ r = cc in
      let mark : Copied t ≡ r.mark = cc in
      let row : c.row ≡ r.row = cc in
      record { note = n; notes = p; waits = q; stamp = i; begins = cc; ends = cc; held = subst (λ k. Held k r.row es) mark (c, u, row) }
  under_move h ns es ms r (c_begun n c p q u x z) g = none_and_one _ z g
  under_move h ns es ms r (c_ended n c p q u x z ne) g = none_and_one _ z g
  under_move h ns es ms r (c_both n c p q x z ne) g = none_and_one _ z g
  under_move h ns es ms r (c_emptied n p q u v x z) g = none_and_one _ z g

  -- at most one row is on the move, and its end is open
  pub on_move : (h : ℕ) (ns : List (Notice K)) (es : List (Entry R)) (ms : List (HotRow K R)) → Cell h ns es ms
      → (ms ≡ []) ⊎ ((m : HotRow K R) × (ms ≡ one m) × (m.end ≡ None))
  on_move h ns es ms (c_empty p q z) = inl z
  on_move h ns es ms (c_plain c p q z) = inl z
  on_move h ns es ms (c_idle n p q u z) = inl z
  on_move h ns es ms (c_chosen n m i p q u z t a x y) = inr (m, z, y)
  on_move h ns es ms (c_copied n m i c p q u z t a x y v) = inr (m, z, y)
  on_move h ns es ms (c_begun n c p q u x z) = inl z
  on_move h ns es ms (c_ended n c p q u x z ne) = inl z
  on_move h ns es ms (c_both n c p q x z ne) = inl z
  on_move h ns es ms (c_emptied n p q u v x z) = inl z

  pub few_movers : (h : ℕ) (ns : List (Notice K)) (es : List (Entry R)) (ms : List (HotRow K R)) → Cell h ns es ms → length ms ≤ 1
  few_movers h ns es ms cell = elim (on_move h ns es ms cell) [
    | inl none ↦ rw none (omega arith)
    | inr lone ↦ rw lone.1 (omega arith)
  ]

  -- the cell without its row on the move
  pub clear : (h : ℕ) (ns : List (Notice K)) (es : List (Entry R)) (ms : List (HotRow K R)) → Cell h ns es ms → Cell h ns es []
  clear h ns es ms (c_empty p q z) = c_empty p q refl
  clear h ns es ms (c_plain c p q z) = c_plain c p q refl
  clear h ns es ms (c_idle n p q u z) = c_idle n p q u refl
  clear h ns es ms (c_chosen n m i p q u z t a x y) = c_idle n p q (rw u (omega arith)) refl
  clear h ns es ms (c_copied n m i c p q u z t a x y v) = c_idle n p q (rw u (omega arith)) refl
  clear h ns es ms (c_begun n c p q u x z) = c_begun n c p q u x refl
  clear h ns es ms (c_ended n c p q u x z ne) = c_ended n c p q u x refl ne
  clear h ns es ms (c_both n c p q x z ne) = c_both n c p q x refl ne
  clear h ns es ms (c_emptied n p q u v x z) = c_emptied n p q u v x refl
