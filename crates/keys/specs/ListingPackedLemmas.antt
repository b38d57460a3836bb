use Rattle.std.specs.Prelude.{◌≡◌, ℕ, ◌+◌, List, ◌++◌, drop}
use Rattle.std.proofs.lemmas.List.{drop_at, drop-drop}
use Rattle.keys.specs.Bytes.{low_bytes}
use Rattle.keys.specs.Low.{length_low}

pub past : (n x : ℕ) (rest : List ℕ) → drop n (low_bytes n x ++ rest) ≡ rest
past n x rest = drop_at (low_bytes n x) rest n (length_low n x)

pub past_two : (m n x y : ℕ) (rest : List ℕ) → drop (m + n) (low_bytes m x ++ (low_bytes n y ++ rest)) ≡ rest
past_two m n x y rest = rw (← drop-drop n m) (rw (past m x (low_bytes n y ++ rest)) (past n y rest))
