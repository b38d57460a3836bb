-- A change of the memo in one cell, and the cold entries' versions before and after it.
use Rattle.std.proofs.Common.{◌≡◌, ℕ, Bool, true, false, cond, eqb, List, [], ◌++◌, Option, refl, ap, ◌∙◌, arith}
use Rattle.std.specs.List.{AllByRecursion as All}
use Rattle.std.proofs.lemmas.Bool.{eqb-true, and_parts}
use Rattle.std.proofs.lemmas.Bool.Decides.{nat_tests}
use Rattle.rules.specs.declared.tables.Notice.{Notice}
use Rattle.cold.specs.Cold.{Entry, is_of}
use Rattle.rules.specs.Looking.{is_for, notice_for}
use Rattle.slots.specs.Lists.{first, kept, one, one_if}
use Rattle.slots.proofs.Folds.{each_same, all_then, spot}
use Rattle.slots.proofs.Edits.{none_kept, first_of_one, first_same, kept_lone, each_is}
use Rattle.versions.proofs.Versions.{Version}
use Rattle.cells.proofs.Cells.{cold_version, cold_part, entry_version}
use Rattle.cells.proofs.Shapes.{same_pair}
use Rattle.cells.proofs.OneCell.{SameElsewhere}

pub cond_nil : {Y : Type 0} (t : Bool) (y : List Y) → y ≡ [] → cond t y [] ≡ []
cond_nil true y h = h
cond_nil false y h = refl

pub cond_one : {Y : Type 0} (t : Bool) (y : Y) → cond t (one y) [] ≡ one_if t y
cond_one true y = refl
cond_one false y = refl

module _ {K : Type 0} (number : K → ℕ) where
  -- in every cell but i, j the notices are as they were
  abbrev pub Elsewhere : List (Notice K) → List (Notice K) → ℕ → ℕ → Type 0
  Elsewhere memo new i j = SameElsewhere (is_for number) memo new i j

module _ {K R : Type 0} (number : K → ℕ) where
  -- the entries of other cells have the versions that they had
  pub elsewhere_version : (memo new : List (Notice K)) (i j k : ℕ)
      → Elsewhere number memo new i j → (c : Entry R) → is_of i j c ≡ false → cold_version number new k c ≡ cold_version number memo k c
  elsewhere_version memo new i j k f c other =
      let alike = f c.number c.tag (turned c other) in
      ap (λ o. cond (eqb c.number k) (entry_version o c.row) []) (first_same (is_for number c.number c.tag) new memo alike)
    where
      turned : (c : Entry R) → is_of i j c ≡ false → same_pair i j c.number c.tag ≡ false
      turned c other = grind (arith, nat_tests)

  pub cold_calm : (memo new : List (Notice K)) (cold : List (Entry R)) (i j k : ℕ)
      → Elsewhere number memo new i j → All (λ c. is_of i j c ≡ false) cold → cold_part number new cold k ≡ cold_part number memo cold k
  cold_calm memo new cold i j k f others = each_same _ _ cold (all_then _ _ cold others (elsewhere_version memo new i j k f))

  -- an entry of the cell has its version from the cell's first notice
  pub version_at : (memo : List (Notice K)) (o : Option (Notice K)) (i j k : ℕ) (c : Entry R)
      → is_of i j c ≡ true → first (is_for number i j) memo ≡ o
      → cold_version number memo k c ≡ cond (eqb c.number k) (entry_version o c.row) []
  version_at memo o i j k c p q =
      let u = and_parts (eqb c.number i) (eqb c.tag j) p in
      let its : notice_for number memo c.number c.tag ≡ o = rw (eqb-true _ _ u.0, eqb-true _ _ u.1) q in
      ap (λ z. cond (eqb c.number k) (entry_version z c.row) []) its

  -- the cold versions of a key around the one entry of the cell i, j
  pub record Split (memo new : List (Notice K)) (cold : List (Entry R)) (i j k : ℕ) (c : Entry R) : Type 0 where
    pub front : List (Version R)
    pub back : List (Version R)
    pub was : cold_part number memo cold k ≡ front ++ (cold_version number memo k c ++ back)
    pub now : cold_part number new cold k ≡ front ++ (cold_version number new k c ++ back)
    pub its : is_of i j c ≡ true

  pub split : (memo new : List (Notice K)) (cold : List (Entry R)) (i j k : ℕ) (c : Entry R)
      → Elsewhere number memo new i j → kept (is_of i j) cold ≡ one c → Split memo new cold i j k c
  split memo new cold i j k c f lone =
      let place = spot (is_of i j) cold c (first_of_one (is_of i j) cold c lone) in
      let rest = kept_lone place (is_of i j) place.passes (rw lone (omega arith)) in
      let pre = cold_calm memo new place.pre i j k f place.before in
      let post = cold_calm memo new place.post i j k f (none_kept _ place.post rest.1) in
      record {
        front = cold_part number memo place.pre k;
        back = cold_part number memo place.post k;
        was = each_is place (cold_version number memo k);
        now = each_is place (cold_version number new k) ∙ rw (pre, post);
        its = place.passes;
      }
