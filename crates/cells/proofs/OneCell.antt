-- A move call and a sweep change one cell: what an edit of one element leaves alone, and what is to be shown of a store
-- with one other cell.
use Rattle.std.proofs.Common.{◌≡◌, ℕ, ◌<◌, ◌≤◌, Bool, true, false, eqb, List, [], ◌++◌, length, sym, refl, ◌∙◌}
use Rattle.rules.specs.declared.tables.HotRow.{HotRow}
use Rattle.rules.specs.declared.tables.Notice.{Notice}
use Rattle.cold.specs.Cold.{Entry, is_of}
use Rattle.rules.specs.Looking.{is_for}
use Rattle.rules.specs.Stores.{Store, with_tables, with_below, with_last_tag, horizon_of}
use Rattle.slots.specs.Lists.{any, at_first, kept, one}
use Rattle.slots.proofs.Folds.{Spot}
use Rattle.slots.proofs.Edits.{kept_miss, kept_calm, kept_it, kept_change}
use Rattle.versions.specs.History.{History}
use Rattle.versions.proofs.Versions.{Rel}
use Rattle.cells.proofs.Cells.{Cell, mover, hot_part, cold_part, Sound, Whole}
use Rattle.cells.proofs.Shapes.{same_pair, pair_self, every_pair, cell_eq, none_and_one}

-- what passes `q k t` is as it was, for every pair but i, j
abbrev pub SameElsewhere : {X : Type 0} → (ℕ → ℕ → X → Bool) → List X → List X → ℕ → ℕ → Type 0
SameElsewhere q xs ys i j = (k t : ℕ) → same_pair i j k t ≡ false → kept (q k t) ys ≡ kept (q k t) xs

-- an edit of the one element of the pair i, j
module _ {X : Type 0} (q : ℕ → ℕ → X → Bool) (i j : ℕ) {p : X → Bool} {xs : List X} {x : X} (at : Spot p xs x) where
  module _ (its : (k t : ℕ) → q k t x ≡ same_pair i j k t) where
    pub edit_elsewhere : (f : X → List X)
        → ((k t : ℕ) → same_pair i j k t ≡ false → kept (q k t) (f x) ≡ []) → SameElsewhere q xs (at_first p f xs) i j
    edit_elsewhere f inside k t other = kept_calm at (q k t) f (inside k t other ∙ sym (kept_miss (q k t) x (its k t ∙ other)))

    module _ (few : length (kept (q i j) xs) ≤ 1) where
      pub only_one : kept (q i j) xs ≡ one x
      only_one = kept_it at (q i j) (its i j ∙ pair_self i j) few

      pub edit_here : (f : X → List X) → kept (q i j) (at_first p f xs) ≡ kept (q i j) (f x)
      edit_here f = kept_change at (q i j) f (its i j ∙ pair_self i j) few

-- an edit that takes the element out leaves nothing anywhere
pub nothing_inside : {X : Type 0} (q : X → Bool) → kept q [] ≡ []
unfolding kept
nothing_inside q = refl

module _ {K R : Type 0} (number : K → ℕ) where
  -- the cells and the tags in use, where one cell with a notice changes
  module _ {h last : ℕ} {before after : ℕ → Bool} {hot hot' : List (HotRow K R)} {memo memo' : List (Notice K)} {cold cold' : List (Entry R)} where
    pub sound_but : Sound number h last before hot memo cold → (i j : ℕ) (n : Notice K) → kept (is_for number i j) memo ≡ one n
        → Cell h (kept (is_for number i j) memo') (kept (is_of i j) cold') (kept (mover number i j) hot')
        → SameElsewhere (is_for number) memo memo' i j → SameElsewhere is_of cold cold' i j → SameElsewhere (mover number) hot hot' i j
        → ((k : ℕ) → any (λ c. eqb c.number k) cold' ≡ true → after k ≡ true)
        → Sound number h last after hot' memo' cold'
    sound_but sound i j n note cell notes entries movers known = record {
      cells = every_pair i j
          (λ k t. Cell h (kept (is_for number k t) memo') (kept (is_of k t) cold') (kept (mover number k t) hot'))
          cell
          (λ k t other. cell_eq (notes k t other) (entries k t other) (movers k t other) (sound.cells k t));
      unused = every_pair i j
          (λ k t. last < t → (kept (is_for number k t) memo' ≡ []) × (kept (is_of k t) cold' ≡ []))
          (λ above. none_and_one _ (sound.unused i j above).0 note)
          (λ k t other above. let u = sound.unused k t above in (notes k t other ∙ u.0, entries k t other ∙ u.1));
      known = known;
    }

  -- a store with the same sessions and clock
  pub whole_with : (σ : Store K R) (T : History R) (hot : List (HotRow K R)) (memo : List (Notice K)) (cold : List (Entry R))
      (admits : ℕ → Bool) (last : ℕ) → Whole number σ T → last ≤ 4000000000
      → Sound number (horizon_of σ) last admits hot memo cold
      → ((k : ℕ) → Rel (horizon_of σ) T.commits T.turn k (hot_part number hot k ++ cold_part number memo cold k))
      → Whole number (with_last_tag (with_below (with_tables σ hot memo σ.ledger) cold admits) last) T
  whole_with σ T hot memo cold admits last w tags sound rel = record {
    clock = w.clock;
    many = w.many;
    agree = w.agree;
    early = w.early;
    started = w.started;
    tags = tags;
    sound = sound;
    rel = rel;
    tidy = w.tidy;
  }
