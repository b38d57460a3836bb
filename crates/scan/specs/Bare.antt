-- The sheet and the tables alone. What is asked of them depends on nothing below.
use Rattle.std.specs.Prelude.{false, List, []}
use Rattle.rules.specs.declared.tables.HotRow.{HotRow}
use Rattle.rules.specs.declared.tables.Notice.{Notice}
use Rattle.rules.specs.declared.tables.Line.{Line}
use Rattle.rules.specs.declared.sheet.Sheet.{Sheet}
use Rattle.rules.specs.Stores.{Store, store}
use Rattle.scan.specs.declared.tables.Tables.{Tables}

-- a store of them with nothing below: no cold entry, no room for one, and no number admitted
abbrev pub bare : {K R : Type 0} → Sheet → List (HotRow K R) → List (Notice K) → List (Line K) → Store K R
bare sheet hot memo ledger = store sheet hot memo ledger [] 0 (λ k. false)

abbrev pub bare_of : {K R : Type 0} → Tables K R → Store K R
bare_of t = bare t.sheet.now t.hot.now t.memo.now t.ledger.now
