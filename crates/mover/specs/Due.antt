-- Which notices are due, by the sheet and the hot table alone.
use Rattle.std.specs.Prelude.{Bool, List}
use Rattle.slots.specs.Lists.{any}
use Rattle.rules.specs.declared.tables.HotRow.{HotRow}
use Rattle.rules.specs.declared.tables.Notice.{Notice}
use Rattle.rules.specs.declared.sheet.Sheet.{Sheet}
use Rattle.rules.specs.Horizon.{horizon}
use Rattle.rules.specs.Notices.{due_kind}
use Rattle.rules.specs.Moving.{row_bears}

abbrev pub due_by : {K R : Type 0} → Sheet → List (HotRow K R) → Notice K → Bool
due_by sheet hot n = due_kind n.kind n.begin n.end (horizon sheet.clock sheet.sessions) (any (row_bears n.tag) hot)
