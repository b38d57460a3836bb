use Rattle.std.proofs.Common.{sym, arith}
use Rattle.std.proofs.lemmas.List.Filters.{FiltersInPlace-more_no, FiltersInPlace-more_set}
use Rattle.slots.proofs.Loops.{kept_all}
use Rattle.slots.proofs.count.retain.Goals as goal
use Rattle.slots.proofs.count.retain.Goals.{then-keep, else-keep}

pub loop-i-preserved : goal.loop-i-preserved
loop-i-preserved g c =
    elim c.if-keep.branch [
      | then-keep w ↦
          rw (w.slots-is, w.n-is) (
            omega (arith, c.loop-i.invariant.0),
            λ p d. FiltersInPlace-more_set (c.loop-i.invariant.1 p d) (omega arith) (sym (d _ _ w.if-keep.ensures)) c.index-slots-i.is,
          )
      | else-keep w ↦
          rw (w.slots-is, w.n-is) (
            omega (arith, c.loop-i.invariant.0),
            λ p d. FiltersInPlace-more_no (c.loop-i.invariant.1 p d) (omega arith) (sym (d _ _ w.if-keep.ensures)) c.index-slots-i.is,
          )
    ]

pub returns-clause-list : goal.returns-clause-list
returns-clause-list g c p d = kept_all c.args.used (c.loop-i.invariant.1 p d) (omega arith)
