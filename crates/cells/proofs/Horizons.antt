-- The horizon is the greatest number that is below the clock and below every read time of an open session, since no
-- session reads past the clock.
use Rattle.std.proofs.Common.{◌≡◌, ℕ, zero, suc, ◌≤◌, List, [], ◌∷◌, set, replicate, Some, None, Option, unwrap_or, subst, arith}
use Rattle.std.specs.List.{AllByRecursion as All}
use Rattle.std.proofs.ByRecursion.{All-set, All-weaker}
use Rattle.rules.specs.declared.sheet.Mode.{Mode}
use Rattle.rules.specs.declared.sheet.Reading.{Reading}
use Rattle.rules.specs.declared.sheet.Session.{Session}
use Rattle.rules.specs.Horizon.{horizon, least_time, lesser}
use Rattle.rules.specs.Stores.{closed, opened_at, session_at}

-- a session that is open reads at g or later
abbrev pub From : ℕ → Option Reading → Type 0
From g None = Unit {0}
From g (Some r) = g ≤ r.time

abbrev pub ReadsFrom : ℕ → Session → Type 0
ReadsFrom g x = From g x.reading

-- an open session reads at 1 or later, and not past the clock
abbrev Within : ℕ → Option Reading → Type 0
Within c None = Unit {0}
Within c (Some r) = (1 ≤ r.time) × (r.time ≤ c)

abbrev pub Early : ℕ → Session → Type 0
Early c x = Within c x.reading

abbrev Under : ℕ → Option ℕ → Type 0
Under g None = Unit {0}
Under g (Some t) = g ≤ t

under_parts : (g : ℕ) (o : Option Reading) (l : Option ℕ) → Under g (lesser o l) → From g o × Under g l
under_parts g None l u = (tt, u)
under_parts g (Some r) None u = (u, tt)
under_parts g (Some r) (Some t) u = (omega arith, omega arith)

under_join : (g : ℕ) (o : Option Reading) (l : Option ℕ) → From g o → Under g l → Under g (lesser o l)
under_join g None l f u = u
under_join g (Some r) None f u = f
under_join g (Some r) (Some t) f u = omega arith

least_parts : (g : ℕ) (xs : List Session) → Under g (least_time xs) → All (ReadsFrom g) xs
unfolding least_time
least_parts g [] u = tt
least_parts g (x ∷ xs) u =
    let p = under_parts g x.reading (least_time xs) u in (p.0, least_parts g xs p.1)

least_join : (g : ℕ) (xs : List Session) → All (ReadsFrom g) xs → Under g (least_time xs)
unfolding least_time
least_join g [] a = tt
least_join g (x ∷ xs) a = under_join g x.reading (least_time xs) a.0 (least_join g xs a.1)

-- every open session reads at the horizon or later
pub horizon_all : (c : ℕ) (xs : List Session) → All (ReadsFrom (horizon c xs)) xs
horizon_all c xs = least_parts (horizon c xs) xs (go (least_time xs))
  where
    go : (l : Option ℕ) → Under (unwrap_or l c) l
    go None = tt
    go (Some t) = omega arith

-- and no smaller number is above it
pub horizon_most : (g c : ℕ) (xs : List Session) → g ≤ c → All (ReadsFrom g) xs → g ≤ horizon c xs
horizon_most g c xs l a = go (least_time xs) (least_join g xs a)
  where
    go : (o : Option ℕ) → Under g o → g ≤ unwrap_or o c
    go None u = l
    go (Some t) u = u

at_place : (P : Session → Type 0) (xs : List Session) (s : ℕ) → All P xs → P closed → P (session_at xs s)
at_place P [] s a z = z
at_place P (x ∷ xs) zero a z = a.0
at_place P (x ∷ xs) (suc s) a z = at_place P xs s a.1 z

pub horizon_read : (c : ℕ) (xs : List Session) (s : ℕ) (r : Reading) → (session_at xs s).reading ≡ Some r → horizon c xs ≤ r.time
horizon_read c xs s r e = subst (From (horizon c xs)) e (at_place (ReadsFrom (horizon c xs)) xs s (horizon_all c xs) tt)

pub early_read : (c : ℕ) (xs : List Session) (s : ℕ) (r : Reading)
    → All (Early c) xs → (session_at xs s).reading ≡ Some r → (1 ≤ r.time) × (r.time ≤ c)
early_read c xs s r a e = subst (Within c) e (at_place (Early c) xs s a tt)

-- the smallest read time is one of them
least_early : (c : ℕ) (xs : List Session) → All (Early c) xs → unwrap_or (least_time xs) c ≤ c
unfolding least_time
least_early c [] a = omega arith
least_early c (x ∷ xs) a = go x.reading (least_time xs) a.0 (least_early c xs a.1)
  where
    go : (o : Option Reading) (l : Option ℕ) → Within c o → unwrap_or l c ≤ c → unwrap_or (lesser o l) c ≤ c
    go None l w h = h
    go (Some r) None w h = w.1
    go (Some r) (Some t) w h = omega arith

pub horizon_low : (c : ℕ) (xs : List Session) → All (Early c) xs → horizon c xs ≤ c
horizon_low c xs a = least_early c xs a

-- the horizon never falls: a begin reads at the clock, a close takes a reader away, a commit raises the clock
pub horizon_open : (c : ℕ) (m : Mode) (xs : List Session) (s : ℕ) → All (Early c) xs → horizon c xs ≤ horizon c (set xs s (opened_at m c))
horizon_open c m xs s a =
    let l = horizon_low c xs a in
    horizon_most (horizon c xs) c (set xs s (opened_at m c)) l (All-set (ReadsFrom (horizon c xs)) xs s (opened_at m c) l (horizon_all c xs))

pub horizon_close : (c d : ℕ) (xs : List Session) (s : ℕ) → All (Early c) xs → c ≤ d → horizon c xs ≤ horizon d (set xs s closed)
horizon_close c d xs s a u =
    let l = horizon_low c xs a in
    horizon_most (horizon c xs) d (set xs s closed) (omega arith) (All-set (ReadsFrom (horizon c xs)) xs s closed tt (horizon_all c xs))

pub early_later : (c d : ℕ) (xs : List Session) → c ≤ d → All (Early c) xs → All (Early d) xs
early_later c d xs l a = All-weaker (Early c) (Early d) (λ x. go x.reading) xs a
  where
    go : (o : Option Reading) → Within c o → Within d o
    go None w = tt
    go (Some r) w = (w.0, omega (arith, w.1))

-- all are closed at an opening
pub early_closed : (n c : ℕ) → All (Early c) (replicate n closed)
early_closed zero c = tt
early_closed (suc n) c = (tt, early_closed n c)

-- and the horizon is at 1 or later
pub horizon_start : (c : ℕ) (xs : List Session) → 1 ≤ c → All (Early c) xs → 1 ≤ horizon c xs
horizon_start c xs l a = horizon_most 1 c xs l (All-weaker (Early c) (ReadsFrom 1) (λ x. go x.reading) xs a)
  where
    go : (o : Option Reading) → Within c o → From 1 o
    go None u = tt
    go (Some r) u = u.0
