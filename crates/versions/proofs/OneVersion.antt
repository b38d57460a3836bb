-- One version v in a list a ++ (v ∷ z): what `rows`, `any` and `All` say of the list with another version u in its place,
-- and of the list without it.
use Rattle.std.proofs.Common.{◌≡◌, Bool, true, false, ◌||◌, List, [], ◌∷◌, ◌++◌, length, Some, None, Option, sym, refl, ap, ◌∙◌, append-nil, arith, length-append}
use Rattle.std.specs.List.{AllByRecursion as All}
use Rattle.slots.specs.Lists.{any, each, one_if, list_of}
use Rattle.slots.proofs.Folds.{any_append, all_front, all_back, all_join}
use Rattle.versions.proofs.Versions.{Version, rows}
use Rattle.versions.proofs.Rows.{rows_append}

-- nothing stands beside the one element of a list
beside_one : {X : Type 0} (a z : List X) (x y : X) → a ++ (x ∷ z) ≡ y ∷ [] → (a ≡ []) × (z ≡ [])
beside_one [] [] x y h = (refl, refl)
beside_one [] (w ∷ z) x y h = absurd (omega (arith, ap length h))
beside_one (w ∷ a) z x y h = absurd (omega (arith, simp length-append at (ap length h)))

module _ {R : Type 0} (a : List (Version R)) (v : Version R) (z : List (Version R)) where
  rows_at : (p : Version R → Bool) → rows p (a ++ (v ∷ z)) ≡ rows p a ++ (one_if (p v) v.row ++ rows p z)
  unfolding each
  rows_at p = rows_append p a (v ∷ z)

  pub any_at : (p : Version R → Bool) → any p (a ++ (v ∷ z)) ≡ (any p a || (p v || any p z))
  unfolding any
  any_at p = any_append p a (v ∷ z)

  pub all_at : (P : Version R → Type 0) → All P (a ++ (v ∷ z)) → P v
  all_at P h = (all_back P a (v ∷ z) h).0

  rows_hit : (p : Version R → Bool) → p v ≡ true → rows p (a ++ (v ∷ z)) ≡ rows p a ++ (v.row ∷ rows p z)
  rows_hit p hit = rows_at p ∙ ap (λ x. rows p a ++ (one_if x v.row ++ rows p z)) hit

  -- a version that passes gives a row
  pub rows_some : (p : Version R → Bool) (o : Option R) → p v ≡ true → rows p (a ++ (v ∷ z)) ≡ list_of o
      → (q : R) × (o ≡ Some q)
  rows_some p None hit h = absurd (omega (arith, simp length-append at (ap length (sym (rows_hit p hit) ∙ h))))
  rows_some p (Some q) hit h = (q, refl)

  -- where it gives the only row, the others give none
  rows_beside : (p : Version R → Bool) (q : R) → p v ≡ true → rows p (a ++ (v ∷ z)) ≡ q ∷ []
      → (rows p a ≡ []) × (rows p z ≡ [])
  rows_beside p q hit h = beside_one (rows p a) (rows p z) v.row q (sym (rows_hit p hit) ∙ h)

  -- the list without it
  pub rows_without : (p : Version R → Bool) → p v ≡ false → rows p (a ++ z) ≡ rows p (a ++ (v ∷ z))
  rows_without p miss = rows_append p a z ∙ sym (rows_at p ∙ ap (λ x. rows p a ++ (one_if x v.row ++ rows p z)) miss)

  pub rows_without_one : (p : Version R → Bool) (q : R) → p v ≡ true → rows p (a ++ (v ∷ z)) ≡ q ∷ []
      → rows p (a ++ z) ≡ []
  rows_without_one p q hit h = let beside = rows_beside p q hit h in rows_append p a z ∙ rw (beside.0, beside.1)

  pub any_without : (p : Version R → Bool) → p v ≡ false → any p (a ++ z) ≡ any p (a ++ (v ∷ z))
  any_without p miss = any_append p a z ∙ sym (any_at p ∙ ap (λ x. any p a || (x || any p z)) miss)

  pub all_without : (P : Version R → Type 0) → All P (a ++ (v ∷ z)) → All P (a ++ z)
  all_without P h = all_join P a z (all_front P a (v ∷ z) h) (all_back P a (v ∷ z) h).1

-- u in the place of v
module _ {R : Type 0} (a : List (Version R)) (v u : Version R) (z : List (Version R)) where
  pub rows_with : (p : Version R → Bool) → one_if (p u) u.row ≡ one_if (p v) v.row
      → rows p (a ++ (u ∷ z)) ≡ rows p (a ++ (v ∷ z))
  rows_with p same = rows_at a u z p ∙ (ap (λ x. rows p a ++ (x ++ rows p z)) same ∙ sym (rows_at a v z p))

  pub rows_with_one : (p : Version R → Bool) (q : R) → p v ≡ true → rows p (a ++ (v ∷ z)) ≡ q ∷ []
      → rows p (a ++ (u ∷ z)) ≡ one_if (p u) u.row
  rows_with_one p q hit h =
      let beside = rows_beside a v z p q hit h in
      rows_at a u z p ∙ rw (beside.0, beside.1) (append-nil (one_if (p u) u.row))

  pub any_with : (p : Version R → Bool) → p u ≡ p v → any p (a ++ (u ∷ z)) ≡ any p (a ++ (v ∷ z))
  any_with p same = any_at a u z p ∙ (ap (λ x. any p a || (x || any p z)) same ∙ sym (any_at a v z p))

  pub all_with : (P : Version R → Type 0) → All P (a ++ (v ∷ z)) → P u → All P (a ++ (u ∷ z))
  all_with P h its = all_join P a (u ∷ z) (all_front P a (v ∷ z) h) (its, (all_back P a (v ∷ z) h).1)
