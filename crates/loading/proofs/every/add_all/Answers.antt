use Rattle.std.proofs.Common.{sym, ap, ◌∙◌}
use Rattle.loading.proofs.Loops.{front_none, front_more}
use Rattle.loading.proofs.every.add_all.Goals as goal

pub loop-read-init : goal.loop-read-init
loop-read-init g c = (front_none (λ r. g.F.Filter.admitted c.args.filter.now r.key.id) c.args.records.now, λ h e. e)

pub loop-read-preserved : goal.loop-read-preserved
loop-read-preserved g c =
    let was = g.F.Filter.admitted c.loop-read.filter in
    let is = g.F.Filter.admitted c.add.new.self in (
      front_more (λ r. was r.key.id) c.args.records.now c.loop-read.read-index (λ r. is r.key.id) c.read-item.result
          c.loop-read-test.true c.read-item.is c.loop-read.invariant.0 (λ z h. c.add.ensures.keeps z.key.id h)
          (ap is (sym c.number.ensures) ∙ c.add.ensures.has),
      λ h e. c.add.ensures.keeps h (c.loop-read.invariant.1 h e),
    )
