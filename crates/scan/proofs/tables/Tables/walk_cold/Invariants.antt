use Rattle.std.proofs.Common.{◌≡◌, ◌+◌, ◌≤◌, length, take}
use Rattle.cold.specs.Cold.{own}
use Rattle.rules.specs.Looking.{Looked, cold_sees, walk}
use Rattle.scan.proofs.tables.Tables.walk_cold.Given as goal

-- what is left of the key's own entries gives the answer, and there are no more finds than entries
abbrev pub invariant-loop-found : goal.invariant-loop-found
invariant-loop-found g l =
    let es = g.C.ColdStore.entries l.cold in
    let k = g.K.Key.number l.key in
    let sees = cold_sees g.K.Key.number (take l.self.sheet.now.memo.used l.self.memo.now) l.look.reader.session l.look.reader.time in
    (◌≡◌ {A = Looked g.row.K.Denot g.row.R.Denot} (walk sees (own k l.tag es) l.finds) (walk sees (own k 0 es) 0))
    × (l.finds + length (own k l.tag es) ≤ length es)

abbrev pub decreases-loop-found : goal.decreases-loop-found
decreases-loop-found g l = length (own (g.K.Key.number l.key) l.tag (g.C.ColdStore.entries l.cold))
