-- What a session writes.
use Rattle.std.specs.Prelude.{ℕ, cond, Some, None, Option, ◌==◌}

-- to each key number a put's row, a drop, or nothing
abbrev pub Writes : Type 0 → Type 0
Writes R = ℕ → Option (Option R)

abbrev pub no_writes : {R : Type 0} → Writes R
no_writes k = None

-- a write over what was there
abbrev pub over : {R : Type 0} → Option (Option R) → Option R → Option R
over None o = o
over (Some w) o = w

-- f with another value at one number
abbrev pub upd : {Y : Type 0} → (ℕ → Y) → ℕ → Y → ℕ → Y
upd f s y n = cond (n == s) y (f n)
