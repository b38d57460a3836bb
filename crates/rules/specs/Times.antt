-- When a version is seen, by whom, and what a commit or an abandon makes of its times.
-- s is a session's number, t its read time. With no end a version is open.
use Rattle.std.specs.Prelude.{ℕ, Bool, false, cond, not, ◌&&◌, is_some, is_none, Some, None, Option, option_map, unwrap_or, ◌==◌, nat_le, nat_lt}
use Rattle.rules.specs.declared.times.Moment.{Moment}
use Rattle.rules.specs.declared.times.Moment.TheVariants as moment

-- a version has begun at a stamp ≤ t, or with the session's own mark
abbrev pub begun : Moment → ℕ → ℕ → Bool
begun (moment.Stamp n) s t = nat_le n t
begun (moment.Mark m) s t = m == s

-- it has ended at a moment that has come so
abbrev pub ended : Option Moment → ℕ → ℕ → Bool
ended None s t = false
ended (Some x) s t = begun x s t

-- a session sees what has begun and has not ended
abbrev pub sees : Moment → Option Moment → ℕ → ℕ → Bool
sees x y s t = begun x s t && not (ended y s t)

-- the session's own mark
abbrev pub begin_marked : Moment → ℕ → Bool
begin_marked (moment.Stamp n) s = false
begin_marked (moment.Mark m) s = m == s

abbrev pub end_marked : Option Moment → ℕ → Bool
end_marked None s = false
end_marked (Some x) s = begin_marked x s

-- a stamp above t
abbrev pub begin_above : Moment → ℕ → Bool
begin_above (moment.Stamp n) t = nat_lt t n
begin_above (moment.Mark m) t = false

abbrev pub end_above : Option Moment → ℕ → Bool
end_above None t = false
end_above (Some x) t = begin_above x t

-- another session's mark, or a stamp above t
abbrev pub foreign_begin : Moment → ℕ → ℕ → Bool
foreign_begin (moment.Stamp n) s t = nat_lt t n
foreign_begin (moment.Mark m) s t = not (m == s)

abbrev pub foreign_end : Option Moment → ℕ → ℕ → Bool
foreign_end None s t = false
foreign_end (Some x) s t = foreign_begin x s t

-- a stamp ≤ the horizon h
abbrev pub past : Moment → ℕ → Bool
past (moment.Stamp n) h = nat_le n h
past (moment.Mark m) h = false

abbrev pub end_past : Option Moment → ℕ → Bool
end_past None h = false
end_past (Some x) h = past x h

-- the stamp, if it is one
abbrev pub stamp_in : Moment → Option ℕ
stamp_in (moment.Stamp n) = Some n
stamp_in (moment.Mark m) = None

abbrev pub stamped_begin : Moment → Bool
stamped_begin x = is_some (stamp_in x)

abbrev pub open_end : Option Moment → Bool
open_end y = is_none y

-- the stamp of a begin; 1 where it has none
abbrev pub begin_stamp : Moment → ℕ
begin_stamp x = unwrap_or (stamp_in x) 1

-- commit: the session's marks become the stamp c
abbrev pub stamp_begin : ℕ → ℕ → Moment → Moment
stamp_begin s c (moment.Stamp n) = moment.Stamp n
stamp_begin s c (moment.Mark m) = cond (m == s) (moment.Stamp c) (moment.Mark m)

abbrev pub stamp_end : ℕ → ℕ → Option Moment → Option Moment
stamp_end s c y = option_map (stamp_begin s c) y

-- abandon: an end with the session's mark is open again
abbrev pub reopen : ℕ → Option Moment → Option Moment
reopen s None = None
reopen s (Some x) = cond (begin_marked x s) None (Some x)
