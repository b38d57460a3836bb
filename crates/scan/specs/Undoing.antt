-- Undoing a session in two steps: what stays, and what becomes of it.
use Rattle.std.specs.Prelude.{ℕ, Bool, cond, not, ◌||◌, is_some, Option}
use Rattle.rules.specs.declared.times.Moment.{Moment}
use Rattle.rules.specs.declared.tables.HotRow.{HotRow}
use Rattle.rules.specs.declared.tables.Kind.{Kind}
use Rattle.rules.specs.declared.tables.Notice.{Notice}
use Rattle.rules.specs.declared.notices.NoticeEvent.TheVariants.{Abandon}
use Rattle.rules.specs.Times.{begin_marked, end_marked, reopen}
use Rattle.rules.specs.Notices.{becomes}
use Rattle.rules.specs.Selling.{kind_or}

module _ {K R : Type 0} where
  abbrev pub row_stays : ℕ → HotRow K R → Bool
  row_stays s h = not (begin_marked h.begin s)

  abbrev pub reopen_row : ℕ → HotRow K R → HotRow K R
  reopen_row s h = record { key = h.key; row = h.row; begin = h.begin; end = reopen s h.end; mark = h.mark }

-- the kind where the session's end is undone
abbrev pub reopen_kind : ℕ → Option Moment → Kind → Kind
reopen_kind s end kind = cond (end_marked end s) (kind_or kind (becomes kind Abandon)) kind

module _ {K : Type 0} where
  abbrev pub notice_stays : ℕ → Notice K → Bool
  notice_stays s n = not (end_marked n.end s) || is_some (becomes n.kind Abandon)

  abbrev pub reopen_notice : ℕ → Notice K → Notice K
  reopen_notice s n =
      record { key = n.key; tag = n.tag; kind = reopen_kind s n.end n.kind; begin = n.begin; end = reopen s n.end }
