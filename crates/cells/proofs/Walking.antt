-- A lookup finds the first hot row of the key that is seen, else the first cold entry of the key that is seen: the finds walk
-- through all of the key's entries, since no tag in use is the highest, and the filter admits every key with an entry.
use Rattle.std.proofs.Common.{◌≡◌, ℕ, ◌+◌, ◌<◌, ◌≤◌, Bool, true, false, cond, ◌&&◌, eqb, List, [], ◌∷◌, Some, None, Option, sym, refl, ap, ◌∙◌, inl, inr, arith}
use Rattle.std.specs.List.{AllByRecursion as All}
use Rattle.std.proofs.ByRecursion.{all_kept_by}
use Rattle.std.proofs.lemmas.Bool.{cases_Bool, cases_lt, lt-ltb, and_parts}
use Rattle.std.proofs.lemmas.Bool.Decides.{nat_tests}
use Rattle.rules.specs.declared.tables.HotRow.{HotRow}
use Rattle.rules.specs.declared.tables.Notice.{Notice}
use Rattle.cold.specs.Cold.{Entry, is_of, is_own, own}
use Rattle.rules.specs.Looking.{hot_sees, cold_sees, Seen, hot_one, cold_one, nothing, Looked, walk, hot_first, looked}
use Rattle.rules.specs.Stores.{Store}
use Rattle.slots.specs.Lists.{first, any, kept}
use Rattle.slots.proofs.Folds.{none_all, all_then, spot}
use Rattle.slots.proofs.Edits.{kept_none, none_kept}
use Rattle.versions.specs.History.{History}
use Rattle.cells.proofs.Cells.{Whole}
use Rattle.cells.proofs.Found.{found_all}

module _ {R : Type 0} where
  -- the key's own entries, searched: the key's first entry that passes
  first_own : (p : Entry R → Bool) (k : ℕ) (xs : List (Entry R)) → first p (own k 0 xs) ≡ first (λ c. eqb c.number k && p c) xs
  unfolding first
  first_own p k [] = refl
  first_own p k (c ∷ xs) =
      let ih = first_own p k xs in
      elim (cases_Bool (eqb c.number k)) [
        | inl y ↦
            let its : is_own k 0 c ≡ true = grind (arith, nat_tests) in
            rw (its, y) (ap (λ z. cond (p c) (Some c) z) ih)
        | inr y ↦ rw y ih
      ]

  -- where no tag above the last is used, no entry has one
  low_tags : (last : ℕ) (cold : List (Entry R))
      → ((k tag : ℕ) → last < tag → kept (is_of k tag) cold ≡ []) → All (λ c. c.tag ≤ last) cold
  low_tags last [] f = tt
  low_tags last (c ∷ cold) f = (
    elim (cases_lt last c.tag) [
      | inl l ↦
          let no : is_of c.number c.tag c ≡ false = (none_kept _ (c ∷ cold) (f c.number c.tag l)).0 in
          absurd (grind (arith, nat_tests))
      | inr l ↦ l
    ],
    low_tags last cold (λ k tag l. kept_none _ cold (none_kept (is_of k tag) (c ∷ cold) (f k tag l)).1),
  )

module _ {K R : Type 0} where
  -- a hot row that is seen, else a cold entry that is
  abbrev pub found : Option (HotRow K R) → Option (Entry R) → Seen K R
  found (Some h) q = hot_one h
  found None (Some c) = cold_one c
  found None None = nothing

  -- below the highest tag the walk ends at the first entry that passes
  walk_first : (p : Entry R → Bool) (xs : List (Entry R)) (n : ℕ)
      → All (λ c. c.tag ≤ 4000000000) xs → (walk {K = K} p xs n).seen ≡ found None (first p xs)
  unfolding walk first
  walk_first p [] n a = refl
  walk_first p (c ∷ xs) n a =
      let low : c.tag < 4294967295 = omega (arith, a.0) in
      elim (cases_Bool (p c)) [ inl y ↦ rw y | inr y ↦ rw (y, lt-ltb c.tag 4294967295 low) (walk_first p xs (n + 1) a.1) ]

  hot_then : (o : Option (HotRow K R)) (rest : Looked K R) (q : Option (Entry R))
      → rest.seen ≡ found None q → (hot_first o rest).seen ≡ found o q
  hot_then None rest q h = h
  hot_then (Some x) rest q h = refl

module _ {K R : Type 0} (number : K → ℕ) where
  -- an entry of the key that is seen
  abbrev pub entry_sees : List (Notice K) → ℕ → ℕ → ℕ → Entry R → Bool
  entry_sees memo s t k c = eqb c.number k && cold_sees number memo s t c

  module _ (σ : Store K R) (T : History R) (w : Whole number σ T) where
    -- no entry of a key that the filter does not admit
    unadmitted : (s t k : ℕ) → σ.admits k ≡ false → first (entry_sees σ.memo s t k) σ.cold ≡ None
    unadmitted s t k h = go (first (entry_sees σ.memo s t k) σ.cold) refl
      where
        go : (o : Option (Entry R)) → first (entry_sees σ.memo s t k) σ.cold ≡ o → o ≡ None
        go None p = refl
        go (Some c) p =
            let at = spot (entry_sees σ.memo s t k) σ.cold c p in
            let its = (and_parts (eqb c.number k) (cold_sees number σ.memo s t c) at.passes).0 in
            elim (cases_Bool (any (λ x. eqb x.number k) σ.cold)) [
              | inl y ↦ absurd (let g = w.sound.known k y in cc)
              | inr y ↦ absurd (
                  let g : eqb c.number k ≡ false =
                  found_all (λ x. eqb x.number k ≡ false) (entry_sees σ.memo s t k) σ.cold c (none_all _ σ.cold y) p in
                  cc)
            ]

    -- a lookup finds the first hot row that is seen, else the key's first entry that is
    pub looked_is : (s t k : ℕ)
        → (looked number σ s t k).seen ≡ found (first (hot_sees number s t k) σ.hot) (first (entry_sees σ.memo s t k) σ.cold)
    looked_is s t k = hot_then (first (hot_sees number s t k) σ.hot) _ _ (go (σ.admits k) refl)
      where
        low : All (λ c. c.tag ≤ 4000000000) σ.cold
        low = all_then _ _ σ.cold (low_tags σ.last_tag σ.cold (λ i j l. (w.sound.unused i j l).1))
            (λ c l. omega (arith, w.tags))

        go : (q : Bool) → σ.admits k ≡ q
            → (cond q (walk {K = K} (cold_sees number σ.memo s t) (own k 0 σ.cold) 0) (record { seen = nothing; finds = 0 })).seen
            ≡ found {K = K} None (first (entry_sees σ.memo s t k) σ.cold)
        go true h =
            walk_first (cold_sees number σ.memo s t) (own k 0 σ.cold) 0 (all_kept_by (is_own k 0) _ σ.cold low)
            ∙ ap (found None) (first_own (cold_sees number σ.memo s t) k σ.cold)
        go false h = sym (ap (found None) (unadmitted s t k h))
