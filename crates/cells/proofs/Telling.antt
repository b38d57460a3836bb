-- A test g of begins and ends, asked of the versions of a key, and asked of the key's hot rows and notices: where the one
-- finds nothing the other finds nothing. Conflicts, stamps above a time and a session's marks are told by such tests.
use Rattle.std.proofs.Common.{◌≡◌, ℕ, ◌≤◌, Bool, true, false, ◌&&◌, ◌||◌, eqb, ltb, List, Some, None, Option, sym, refl, ap, ◌∙◌, subst, inl, inr, arith}
use Rattle.std.specs.List.{AllByRecursion as All}
use Rattle.std.proofs.lemmas.Bool.{cases_Bool, eqb-true, eq-eqb, and_parts}
use Rattle.std.proofs.lemmas.Bool.Decides.{nat_tests}
use Rattle.rules.specs.declared.times.Moment.{Moment}
use Rattle.rules.specs.declared.tables.HotRow.{HotRow}
use Rattle.rules.specs.declared.tables.Kind.{Kind}
use Rattle.rules.specs.declared.tables.Notice.{Notice}
use Rattle.rules.specs.declared.times.Moment.TheVariants as moment
use Rattle.rules.specs.declared.tables.Kind.TheVariants.{N, B, E, BE, X}
use Rattle.cold.specs.Cold.{Entry, is_of}
use Rattle.rules.specs.Looking.{is_for, notice_for}
use Rattle.rules.specs.Stores.{Store, horizon_of}
use Rattle.slots.specs.Lists.{any, kept, one}
use Rattle.slots.proofs.Folds.{none_all, all_none, all_then, all_every, all_front, all_back, all_join, all_each, spot}
use Rattle.slots.proofs.Edits.{first_of_one, kept_it}
use Rattle.versions.specs.History.{History}
use Rattle.versions.proofs.Versions.{Version}
use Rattle.cells.proofs.Found.{found_all, all_parts, none_found}
use Rattle.cells.proofs.Cells.{Cell, Pending, QuietEnd, hot_version, cold_version, hot_part, versions, entry_version, kind_version, Whole}
use Rattle.cells.proofs.Cells.{c_empty, c_plain, c_idle, c_chosen, c_copied, c_begun, c_ended, c_both, c_emptied}
use Rattle.cells.proofs.Shapes.{few_notes, none_and_one}
use Rattle.cells.proofs.Splitting.{version_at}

-- parts of a test
pub or_open : (x y : Bool) → (x || y) ≡ false → (x || false) ≡ false
or_open x y free = grind arith

pub or_one : (t x : ℕ) (y : Bool) → 1 ≤ t → (ltb t x || y) ≡ false → (ltb t 1 || y) ≡ false
or_one t x y late free = grind (arith, nat_tests)

-- a version that fails the test
abbrev pub Free : {R : Type 0} → (Moment → Option Moment → Bool) → Version R → Type 0
Free g v = g v.begin v.end ≡ false

-- a hot row and a notice of key k that pass it
module _ {K : Type 0} (number : K → ℕ) where
  abbrev pub hot_passes : {R : Type 0} → (Moment → Option Moment → Bool) → ℕ → HotRow K R → Bool
  hot_passes g k x = eqb (number x.key) k && g x.begin x.end

  abbrev pub notice_passes : (Moment → Option Moment → Bool) → ℕ → Notice K → Bool
  notice_passes g k n = eqb (number n.key) k && g (moment.Stamp n.begin) n.end

-- a test that fails the times of an entry with no notice, and those of a notice X
pub record FailsPast (h : ℕ) (g : Moment → Option Moment → Bool) : Type 0 where
  pub plain : g (moment.Stamp 1) None ≡ false
  pub quiet : (x : ℕ) (y : Option Moment) → x ≤ h → QuietEnd h y → g (moment.Stamp x) y ≡ false

-- a test that fails an open end and the begin 1 wherever it fails others in their place
pub record FailsParts (g : Moment → Option Moment → Bool) : Type 0 where
  pub plain : g (moment.Stamp 1) None ≡ false
  pub opens : (x : ℕ) (y : Option Moment) → g (moment.Stamp x) y ≡ false → g (moment.Stamp x) None ≡ false
  pub ones : (x : ℕ) (y : Option Moment) → g (moment.Stamp x) y ≡ false → g (moment.Stamp 1) y ≡ false

-- From the versions to the notices and the hot rows. A pending notice fails the test
module _ {h : ℕ} (g : Moment → Option Moment → Bool) (fails : FailsPast h g) where
  pending_free : {K : Type 0} {ns : List (Notice K)} (m n : Notice K) → Pending m → ns ≡ one m → ns ≡ one n
      → g (moment.Stamp n.begin) n.end ≡ false
  pending_free m n waits p own =
      let same : m ≡ n = cc in
      subst (λ x. g (moment.Stamp x.begin) x.end ≡ false) same (rw (waits.begin, waits.end) fails.plain)

  -- the notice of a cell fails the test if its entry's version does
  notice_free : {K R : Type 0} {ns : List (Notice K)} {es : List (Entry R)} {ms : List (HotRow K R)}
      → Cell h ns es ms → (n : Notice K) → ns ≡ one n
      → ((c : Entry R) → es ≡ one c → All (Free g) (kind_version n.kind n.begin n.end c.row))
      → g (moment.Stamp n.begin) n.end ≡ false
  notice_free (c_empty p q z) n own entry = none_and_one _ p own
  notice_free (c_plain c p q z) n own entry = none_and_one _ p own
  notice_free (c_idle m p waits u z) n own entry = pending_free m n waits p own
  notice_free (c_chosen m x i p waits u z t a d y) n own entry = pending_free m n waits p own
  notice_free (c_copied m x i c p waits u z t a d y v) n own entry = pending_free m n waits p own
  notice_free (c_begun m c p k u x z) n own entry =
      let kind : n.kind ≡ B = cc in
      let end : n.end ≡ None = cc in
      let free = rw kind at (entry c x) in
      rw end free.0
  notice_free (c_ended m c p k u x z ne) n own entry =
      let kind : n.kind ≡ E = cc in
      let begin : n.begin ≡ 1 = cc in
      let free = rw kind at (entry c x) in
      rw begin free.0
  notice_free (c_both m c p k x z ne) n own entry =
      let kind : n.kind ≡ BE = cc in
      let free = rw kind at (entry c x) in
      free.0
  notice_free (c_emptied m p k u v x z) n own entry =
      let same : m ≡ n = cc in
      subst (λ x. g (moment.Stamp x.begin) x.end ≡ false) same (fails.quiet m.begin m.end u v)

module _ {K R : Type 0} (number : K → ℕ) (σ : Store K R) (k : ℕ) where
  -- what all versions of the key have, that of a notice's entry has
  at_notice : (P : Version R → Type 0) (n : Notice K) (c : Entry R) → All P (versions number σ k)
      → kept (is_for number k n.tag) σ.memo ≡ one n → kept (is_of k n.tag) σ.cold ≡ one c
      → All P (kind_version n.kind n.begin n.end c.row)
  at_notice P n c all note entry =
      let found = first_of_one (is_of k n.tag) σ.cold c entry in
      let its = (spot (is_of k n.tag) σ.cold c found).passes in
      let here = (and_parts (eqb c.number k) (eqb c.tag n.tag) its).0 in
      let version : cold_version number σ.memo k c ≡ kind_version n.kind n.begin n.end c.row =
      version_at number σ.memo (Some n) k n.tag k c its (first_of_one _ σ.memo n note) ∙ rw here in
      let parts = all_parts P (cold_version number σ.memo k) σ.cold (all_back P (hot_part number σ.hot k) _ all) in
      subst (All P) version (found_all (λ x. All P (cold_version number σ.memo k x)) (is_of k n.tag) σ.cold c parts found)

  module _ (g : Moment → Option Moment → Bool) (all : All (Free g) (versions number σ k)) where
    pub tells_notices : {T : History R} → Whole number σ T → FailsPast (horizon_of σ) g → any (notice_passes number g k) σ.memo ≡ false
    tells_notices w fails = none_found (notice_passes number g k) σ.memo (λ n found.
        let place = spot (notice_passes number g k) σ.memo n found in
        let its = and_parts (eqb (number n.key) k) (g (moment.Stamp n.begin) n.end) place.passes in
        let cell = w.sound.cells k n.tag in
        let own = kept_it place (is_for number k n.tag) (rw (its.0, eq-eqb n.tag n.tag refl)) (few_notes _ _ _ _ cell) in
        let free = notice_free g fails cell n own (λ c entry. at_notice (Free g) n c all own entry) in
        let passes = its.1 in
        cc)

    pub tells_hot : any (hot_passes number g k) σ.hot ≡ false
    tells_hot =
        all_none _ σ.hot (all_then _ _ σ.hot
        (all_parts (Free g) (hot_version number k) σ.hot (all_front (Free g) (hot_part number σ.hot k) _ all)) version_free)
      where
        version_free : (x : HotRow K R) → All (Free g) (hot_version number k x) → hot_passes number g k x ≡ false
        version_free x free = elim (cases_Bool (eqb (number x.key) k)) [
          | inl its ↦ let its_free = rw its at free in rw its its_free.0
          | inr other ↦ rw other
        ]

-- and back: where no hot row and no notice passes, no version does
module _ {K R : Type 0} (number : K → ℕ) (σ : Store K R) (k : ℕ) (g : Moment → Option Moment → Bool) (fails : FailsParts g) where
  kind_free : (kind : Kind) (x : ℕ) (y : Option Moment) (r : R) → g (moment.Stamp x) y ≡ false → All (Free g) (kind_version kind x y r)
  kind_free N x y r free = tt
  kind_free B x y r free = (fails.opens x y free, tt)
  kind_free E x y r free = (fails.ones x y free, tt)
  kind_free BE x y r free = (free, tt)
  kind_free X x y r free = tt

  row_free : (x : HotRow K R) → hot_passes number g k x ≡ false → All (Free g) (hot_version number k x)
  row_free x free = elim (cases_Bool (eqb (number x.key) k)) [ inl its ↦ rw its ((rw its at free), tt) | inr other ↦ rw other tt ]

  module _ (none : any (notice_passes number g k) σ.memo ≡ false) where
    entry_free : (c : Entry R) → c.number ≡ k → (o : Option (Notice K)) → notice_for number σ.memo c.number c.tag ≡ o
        → All (Free g) (entry_version o c.row)
    entry_free c its None found = (fails.plain, tt)
    entry_free c its (Some n) found =
        let own : Notice K → Bool = is_for number c.number c.tag in
        let free = found_all (λ x. notice_passes number g k x ≡ false) own σ.memo n (none_all _ σ.memo none) found in
        let at = and_parts (eqb (number n.key) c.number) (eqb n.tag c.tag) (spot own σ.memo n found).passes in
        let key : eqb (number n.key) k ≡ true = ap (λ z. eqb (number n.key) z) (sym its) ∙ at.0 in
        kind_free n.kind n.begin n.end c.row (rw key at free)

    cold_free : (c : Entry R) → All (Free g) (cold_version number σ.memo k c)
    cold_free c = elim (cases_Bool (eqb c.number k)) [
      | inl its ↦ rw its (entry_free c (eqb-true _ _ its) (notice_for number σ.memo c.number c.tag) refl)
      | inr other ↦ rw other tt
    ]

    pub tells_versions : any (hot_passes number g k) σ.hot ≡ false → All (Free g) (versions number σ k)
    tells_versions rows =
        all_join (Free g) (hot_part number σ.hot k) _
        (all_each _ (hot_version number k) σ.hot (all_then _ _ σ.hot (none_all _ σ.hot rows) row_free))
        (all_each _ (cold_version number σ.memo k) σ.cold (all_every _ σ.cold cold_free))
