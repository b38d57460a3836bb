-- The horizon: the smallest read time of an open session, or the clock if none is open.
use Rattle.std.specs.Prelude.{ℕ, min, List, [], ◌∷◌, Some, None, Option, unwrap_or}
use Rattle.rules.specs.declared.sheet.Reading.{Reading}
use Rattle.rules.specs.declared.sheet.Session.{Session}

-- the smaller of a session's read time, if it is open, and of what was found before
abbrev pub lesser : Option Reading → Option ℕ → Option ℕ
lesser None o = o
lesser (Some r) None = Some r.time
lesser (Some r) (Some t) = Some (min r.time t)

-- the smallest read time of an open session
unfoldable pub least_time : List Session → Option ℕ
least_time [] = None
least_time (x ∷ xs) = lesser x.reading (least_time xs)

abbrev pub horizon : ℕ → List Session → ℕ
horizon clock sessions = unwrap_or (least_time sessions) clock
