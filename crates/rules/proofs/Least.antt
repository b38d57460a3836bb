-- The smallest of the read times, in the order in which a fold meets them.
use Rattle.std.proofs.Common.{◌≡◌, ℕ, min, List, [], ◌∷◌, map, fold, Some, None, Option, refl, ap, ◌∙◌, arith}
use Rattle.std.specs.List.{reduce, filter_map, cons_option}
use Rattle.rules.specs.declared.sheet.Reading.{Reading}
use Rattle.rules.specs.declared.sheet.Session.{Session}
use Rattle.rules.specs.Horizon.{least_time, lesser}

abbrev times : List Session → List ℕ
times xs = map (λ r. r.time) (filter_map (λ x. x.reading) xs)

abbrev least_with : ℕ → Option ℕ → ℕ
least_with n None = n
least_with n (Some t) = min n t

both : (n : ℕ) (r : Reading) (l : Option ℕ) → least_with (min n r.time) l ≡ least_with n (lesser (Some r) l)
both n r None = refl
both n r (Some t) = omega arith

first : (r : Reading) (l : Option ℕ) → Some (least_with r.time l) ≡ lesser (Some r) l
first r None = refl
first r (Some t) = refl

fold_least : (n : ℕ) (xs : List Session) → fold min n (times xs) ≡ least_with n (least_time xs)
unfolding least_time
fold_least n [] = refl
fold_least n (x ∷ xs) = go x.reading (λ m. fold_least m xs)
  where
    go : (o : Option Reading) → ((m : ℕ) → fold min m (times xs) ≡ least_with m (least_time xs))
        → fold min n (map (λ r. r.time) (cons_option o (filter_map (λ x. x.reading) xs))) ≡ least_with n (lesser o (least_time xs))
    go None rest = rest n
    go (Some r) rest = rest (min n r.time) ∙ both n r (least_time xs)

pub least_is : (xs : List Session) → reduce min (times xs) ≡ least_time xs
unfolding least_time
least_is [] = refl
least_is (x ∷ xs) = go x.reading (least_is xs)
  where
    go : (o : Option Reading) → reduce min (times xs) ≡ least_time xs
        → reduce min (map (λ r. r.time) (cons_option o (filter_map (λ x. x.reading) xs))) ≡ lesser o (least_time xs)
    go None rest = rest
    go (Some r) rest = ap Some (fold_least r.time xs) ∙ first r (least_time xs)
