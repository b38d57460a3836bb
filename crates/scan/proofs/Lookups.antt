-- A lookup's answer against the rule.
use Rattle.std.proofs.Common.{◌≡◌, ℕ, true, false, cond, is_some, Some, None, Option, option_map, sym, refl, ap, ◌∙◌}
use Rattle.std.proofs.lemmas.Bool.{cond-true, cond-false}
use Rattle.slots.specs.declared.hit.Hit.{Hit}
use Rattle.slots.specs.Lists.{hit, first}
use Rattle.slots.proofs.Hits.{hit_none, hit_first}
use Rattle.cold.specs.Cold.{own}
use Rattle.rules.specs.declared.tables.HotRow.{HotRow}
use Rattle.rules.specs.Stores.{Store}
use Rattle.rules.specs.Looking as rule
use Rattle.rules.specs.Looking.{hot_sees, cold_sees, walk, hot_first, looked, row_of}
use Rattle.scan.specs.declared.looked.Place.TheVariants.{Hot}
use Rattle.scan.specs.declared.looked.Looked.{Looked}
use Rattle.std.specs.List.{position_or_len}
use Rattle.scan.specs.Told.{seen_at, looked_at}
use Rattle.scan.proofs.Placing.{hit_place}

-- the row that is told is the rule's, and one is told where the rule has one
pub row_told : {K R : Type 0} (i : ℕ) (v : rule.Seen K R) → option_map (λ v. v.row) (seen_at i v) ≡ row_of v
row_told i (rule.hot_one h) = refl
row_told i (rule.cold_one c) = refl
row_told i rule.nothing = refl

pub any_told : {K R : Type 0} (i : ℕ) (v : rule.Seen K R) → is_some (seen_at i v) ≡ is_some (row_of v)
any_told i (rule.hot_one h) = refl
any_told i (rule.cold_one c) = refl
any_told i rule.nothing = refl

module _ {K R : Type 0} (number : K → ℕ) (σ : Store K R) (s t k : ℕ) where
  below : rule.Looked K R
  below = cond (σ.admits k) (walk (cold_sees number σ.memo s t) (own k 0 σ.cold) 0) (record { seen = rule.nothing; finds = 0 })

  at_hot : (o : Option (HotRow K R)) → first (hot_sees number s t k) σ.hot ≡ o → hot_first o below ≡ looked number σ s t k
  unfolding below
  at_hot o q = ap (λ z. hot_first z below) (sym q)

  -- a hot row is seen
  pub from_hot : (h : Hit (HotRow K R)) → hit (hot_sees number s t k) σ.hot ≡ Some h
      → record { seen = Some (record { row = h.it.row; place = Hot h.at }); finds = 0 }
      ≡ looked_at (position_or_len (hot_sees number s t k) σ.hot) (looked number σ s t k)
  from_hot h q =
      let p = hot_sees number s t k in
      ap (λ i. looked_at i (hot_first (Some h.it) below)) (hit_place p σ.hot h q)
      ∙ ap (looked_at (position_or_len p σ.hot)) (at_hot (Some h.it) (hit_first p σ.hot h q))

  -- none is, and the filter does not admit the key
  pub from_none : (i : ℕ) → hit (hot_sees number s t k) σ.hot ≡ None → false ≡ σ.admits k
      → record { seen = None; finds = 0 } ≡ looked_at i (looked number σ s t k)
  unfolding below
  from_none i q e =
      ap (looked_at i) (sym (cond-false (σ.admits k) _ _ (sym e)) ∙ at_hot None (hit_none (hot_sees number s t k) σ.hot q))

  -- none is, and the cold store is asked
  pub from_cold : (i : ℕ) {r : Looked R} → hit (hot_sees number s t k) σ.hot ≡ None → true ≡ σ.admits k
      → r ≡ looked_at {K = K} i (walk (cold_sees number σ.memo s t) (own k 0 σ.cold) 0) → r ≡ looked_at i (looked number σ s t k)
  unfolding below
  from_cold i q e w =
      w ∙ ap (looked_at i) (sym (cond-true (σ.admits k) _ _ (sym e)) ∙ at_hot None (hit_none (hot_sees number s t k) σ.hot q))
