-- What a put that the cold store refuses leaves.
use Rattle.std.proofs.Common.{◌≡◌, ℕ, Bool, true, false, cond, eqb, List, length, Ok, Err, refl}
use Rattle.cold.specs.Cold.{Entry, is_there, put_in, put_answer, put_after}
use Rattle.cold.specs.declared.store.ColdRefusal.{ColdRefusal}
use Rattle.cold.specs.declared.store.ColdRefusal.TheVariants.{There, Full}

-- a refused put leaves the entries as they were
pub put_refused : {R : Type 0} (limit : ℕ) (es : List (Entry R)) (n t : ℕ) (r : R) (why : ColdRefusal)
    → put_answer limit es n t ≡ Err why → put_after limit es n t r ≡ es
put_refused limit es n t r why h = go (is_there n t es) (eqb (length es) limit) h
  where
    go : (a b : Bool) → cond a (Err There) (cond b (Err (Full (length es))) (Ok (tt {0}))) ≡ Err why
        → cond a es (cond b es (put_in (record { number = n; tag = t; row = r }) es)) ≡ es
    go true b h = refl
    go false true h = refl
    go false false h = absurd cc
