-- What a cold store means: a set of entries, listed by rising key number, then tag.
use Rattle.std.specs.Prelude.{ℕ, Bool, cond, not, ◌&&◌, ◌||◌, List, [], ◌∷◌, length, Some, None, Ok, Err, filter, Option, Result, ◌==◌, nat_le, nat_lt}
use Rattle.cold.specs.Lists.{any, rise}
use Rattle.cold.specs.declared.store.ColdRefusal.{ColdRefusal}
use Rattle.cold.specs.declared.store.ColdRefusal.TheVariants.{There, Full}
use Rattle.cold.specs.declared.store.Found.{Found}

pub record Entry (R : Type 0) : Type 0 where
  pub number : ℕ
  pub tag : ℕ
  pub row : R

-- m with s comes before n with t: by number, then tag
abbrev pub below_by : ℕ → ℕ → ℕ → ℕ → Bool
below_by m s n t = nat_lt m n || (m == n && nat_lt s t)

module _ {R : Type 0} where
  abbrev pub before : Entry R → Entry R → Bool
  before d e = below_by d.number d.tag e.number e.tag

  -- by rising key number, then tag, so that no two entries have the same of both
  abbrev pub in_order : List (Entry R) → Bool
  in_order es = rise before es

  -- the entry has that key number and tag
  abbrev pub is_of : ℕ → ℕ → Entry R → Bool
  is_of n t e = e.number == n && e.tag == t

  abbrev pub is_there : ℕ → ℕ → List (Entry R) → Bool
  is_there n t es = any (is_of n t) es

  -- an entry put in where the order has it
  unfoldable pub put_in : Entry R → List (Entry R) → List (Entry R)
  put_in e [] = e ∷ []
  put_in e (x ∷ xs) = cond (before x e) (x ∷ put_in e xs) (e ∷ (x ∷ xs))

  abbrev pub put_answer : ℕ → List (Entry R) → ℕ → ℕ → Result (Unit {0}) ColdRefusal
  put_answer limit es n t = cond (is_there n t es) (Err There) (cond (length es == limit) (Err (Full (length es))) (Ok tt))

  abbrev pub put_after : ℕ → List (Entry R) → ℕ → ℕ → R → List (Entry R)
  put_after limit es n t r =
      cond (is_there n t es) es (cond (length es == limit) es (put_in (record { number = n; tag = t; row = r }) es))

  abbrev pub removed_after : List (Entry R) → ℕ → ℕ → List (Entry R)
  removed_after es n t = filter (λ e. not (is_of n t e)) es

  -- the entry is the key's own, with a tag not below t
  abbrev pub is_own : ℕ → ℕ → Entry R → Bool
  is_own n t e = e.number == n && nat_le t e.tag

  -- the key's own entries from a tag on, by rising tag
  abbrev pub own : ℕ → ℕ → List (Entry R) → List (Entry R)
  own n t es = filter (is_own n t) es

  -- what a find tells of an entry
  abbrev pub told : Entry R → Found R
  told e = record { tag = e.tag; row = e.row }

  abbrev pub first_of : List (Entry R) → Option (Found R)
  first_of [] = None
  first_of (e ∷ es) = Some (told e)

  -- the key's own entry with the smallest tag not below t
  abbrev pub found : List (Entry R) → ℕ → ℕ → Option (Found R)
  found es n t = first_of (own n t es)
