use Rattle.loading.proofs.Whole.{next_none, next_last}
use Rattle.loading.proofs.report.next_number.Goals as goal

pub returns-in-Some : goal.returns-in-Some
returns-in-Some c =
    next_last c.args.records.now c.in-Some.read.now c.checked_add.result c.in-Some.ensures.item.3.0
    c.in-Some.ensures.item.1 c.checked_add.ensures

pub returns-in-None : goal.returns-in-None
returns-in-None c = next_none c.args.records.now c.in-None.ensures.item.3
