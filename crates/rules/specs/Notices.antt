-- What a notice gives its cold entry, what becomes of it at each event, and when it is due.
use Rattle.std.specs.Prelude.{ℕ, Bool, true, false, not, Some, None, Option, nat_le}
use Rattle.rules.specs.declared.times.Moment.{Moment}
use Rattle.rules.specs.declared.times.Moment.TheVariants as moment
use Rattle.rules.specs.declared.tables.Kind.{Kind}
use Rattle.rules.specs.declared.tables.Kind.TheVariants.{N, B, E, BE, X}
use Rattle.rules.specs.declared.notices.NoticeEvent.{NoticeEvent}
use Rattle.rules.specs.declared.notices.NoticeEvent.TheVariants.{Settle, Ending, Abandon, Empty}
use Rattle.rules.specs.Times.{sees, end_past}

-- does a session see a cold entry whose notice has this kind, begin and end
abbrev pub kind_sees : Kind → ℕ → Option Moment → ℕ → ℕ → Bool
kind_sees N x y s t = false
kind_sees B x y s t = sees (moment.Stamp x) None s t
kind_sees E x y s t = sees (moment.Stamp 1) y s t
kind_sees BE x y s t = sees (moment.Stamp x) y s t
kind_sees X x y s t = false

-- what a notice of each kind becomes at each event; nothing: it is taken out
abbrev pub becomes : Kind → NoticeEvent → Option Kind
becomes N Settle = Some B
becomes N Ending = Some N
becomes N Abandon = Some N
becomes N Empty = Some X
becomes B Settle = Some B
becomes B Ending = Some BE
becomes B Abandon = Some B
becomes B Empty = None
becomes E Settle = Some E
becomes E Ending = Some E
becomes E Abandon = None
becomes E Empty = Some X
becomes BE Settle = Some BE
becomes BE Ending = Some BE
becomes BE Abandon = Some B
becomes BE Empty = Some X
becomes X Settle = Some X
becomes X Ending = Some X
becomes X Abandon = Some X
becomes X Empty = None

-- is a notice due at horizon h; `borne`: a hot row bears its tag
abbrev pub due_kind : Kind → ℕ → Option Moment → ℕ → Bool → Bool
due_kind N x y h borne = not borne
due_kind B x y h borne = nat_le x h
due_kind E x y h borne = end_past y h
due_kind BE x y h borne = end_past y h
due_kind X x y h borne = true
