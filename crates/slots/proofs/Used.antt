-- The used part of a table after one element was changed.
use Rattle.std.proofs.Common.{◌≡◌, ℕ, Bool, true, false, List, take, is_some, Some, None, sym, ap, ◌∙◌}
use Rattle.slots.specs.declared.hit.Hit.{Hit}
use Rattle.slots.specs.Lists.{hit, any, at_first, one, changed_at}
use Rattle.slots.proofs.Hits.{hit_any, hit_none, hit_changed}
use Rattle.slots.proofs.Folds.{at_first_none}
use Rattle.slots.proofs.Slots.{take_changed}

module _ {X : Type 0} (p : X → Bool) (f : X → X) (used : ℕ) (xs : List X) where
  -- a slot that a search found, changed
  pub found_changed : (h : Hit X) (ys : List X) → hit p (take used xs) ≡ Some h → ys ≡ changed_at h.at f xs
      → take used ys ≡ at_first p (λ x. one (f x)) (take used xs)
  found_changed h ys q e = ap (take used) e ∙ take_changed f used h.at xs ∙ hit_changed p (take used xs) h q f

  -- nothing was found, and nothing changed
  pub none_changed : hit p (take used xs) ≡ None → take used xs ≡ at_first p (λ x. one (f x)) (take used xs)
  none_changed q = sym (at_first_none p (λ x. one (f x)) (take used xs) (hit_none p (take used xs) q))

module _ {X : Type 0} (p : X → Bool) (xs : List X) where
  pub found_any : (h : Hit X) → hit p xs ≡ Some h → true ≡ any p xs
  found_any h q = sym (ap is_some q) ∙ hit_any p xs

  pub none_any : hit p xs ≡ None → false ≡ any p xs
  none_any q = sym (ap is_some q) ∙ hit_any p xs
