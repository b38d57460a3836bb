-- An edit of one hot row, as the versions of its key and of every other key see it.
use Rattle.std.proofs.Common.{◌≡◌, ℕ, Bool, true, eqb, List, [], ◌∷◌, ◌++◌, sym, refl, ap, ◌∙◌, append_assoc}
use Rattle.std.proofs.lemmas.Bool.{eqb-true, ne_eqb}
use Rattle.rules.specs.declared.tables.HotRow.{HotRow}
use Rattle.rules.specs.Stores.{Store}
use Rattle.slots.specs.Lists.{at_first, one, one_if}
use Rattle.slots.proofs.Folds.{Spot}
use Rattle.slots.proofs.Edits.{each_is, each_set, each_out, each_calm}
use Rattle.versions.proofs.Versions.{Version}
use Rattle.cells.proofs.Cells.{row_version, hot_version, hot_part, cold_part, versions}

module _ {K R : Type 0} (number : K → ℕ) where
  -- the first row that passes p is x, a row of key number k
  module _ (σ : Store K R) (k : ℕ) {p : HotRow K R → Bool} {x : HotRow K R} (at : Spot p σ.hot x)
      (its : eqb (number x.key) k ≡ true) where
    abbrev cold : ℕ → List (Version R)
    cold j = cold_part number σ.memo σ.cold j

    -- the versions of the key before and after that of x
    abbrev pub front : List (Version R)
    front = hot_part number at.pre k

    abbrev pub back : List (Version R)
    back = hot_part number at.post k ++ cold k

    pub around : versions number σ k ≡ front ++ (row_version x ∷ back)
    around =
        ap (λ z. z ++ cold k)
        (each_is at (hot_version number k) ∙ ap (λ t. front ++ (one_if t (row_version x) ++ hot_part number at.post k)) its)
        ∙ append_assoc front _ (cold k)

    pub around_set : (f : HotRow K R → List (HotRow K R)) (y : HotRow K R) → f x ≡ one y → y.key ≡ x.key
        → hot_part number (at_first p f σ.hot) k ++ cold k ≡ front ++ (row_version y ∷ back)
    around_set f y e same =
        ap (λ z. z ++ cold k)
        (each_set at (hot_version number k) y f e
        ∙ ap (λ t. front ++ (one_if t (row_version y) ++ hot_part number at.post k)) (ap (λ z. eqb (number z) k) same ∙ its))
        ∙ append_assoc front _ (cold k)

    pub around_out : (f : HotRow K R → List (HotRow K R)) → f x ≡ [] → hot_part number (at_first p f σ.hot) k ++ cold k ≡ front ++ back
    around_out f e = ap (λ z. z ++ cold k) (each_out at (hot_version number k) f e) ∙ append_assoc front _ (cold k)

    -- a row of that key is no version of another
    none_elsewhere : (j : ℕ) → (j ≡ k → ⊥) → (y : HotRow K R) → y.key ≡ x.key → hot_version number j y ≡ []
    none_elsewhere j ne y e =
        ap (λ t. one_if t (row_version y)) (ap (λ z. eqb z j) (ap number e ∙ eqb-true _ _ its) ∙ ne_eqb k j (λ z. ne (sym z)))

    pub others_set : (f : HotRow K R → List (HotRow K R)) (y : HotRow K R) → f x ≡ one y → y.key ≡ x.key
        → (j : ℕ) → (j ≡ k → ⊥) → hot_part number (at_first p f σ.hot) j ++ cold j ≡ versions number σ j
    others_set f y e same j ne =
        ap (λ z. z ++ cold j) (each_calm at (hot_version number j) y f e (none_elsewhere j ne y same ∙ sym (none_elsewhere j ne x refl)))

    pub others_out : (f : HotRow K R → List (HotRow K R)) → f x ≡ []
        → (j : ℕ) → (j ≡ k → ⊥) → hot_part number (at_first p f σ.hot) j ++ cold j ≡ versions number σ j
    others_out f e j ne =
        ap (λ z. z ++ cold j)
        (each_out at (hot_version number j) f e
        ∙ sym (each_is at (hot_version number j)
        ∙ ap (λ z. hot_part number at.pre j ++ (z ++ hot_part number at.post j)) (none_elsewhere j ne x refl)))
