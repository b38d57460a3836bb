use Rattle.std.proofs.Common.{◌≡◌, take, drop}
use Rattle.slots.specs.Lists.{hit, hit_from}
use Rattle.mover.specs.Due.{due_by}
use Rattle.mover.proofs.due.first_due.Given as goal

-- what is left gives the answer
abbrev pub invariant-loop-at : goal.invariant-loop-at
invariant-loop-at g l =
    let p = due_by l.sheet (take l.sheet.hot.used l.hot) in
    hit_from p l.at (drop l.at l.notices) ≡ hit p l.notices
