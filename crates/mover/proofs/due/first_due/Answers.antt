use Rattle.std.proofs.Common.{ℕ, take, ap, ◌∙◌, arith}
use Rattle.slots.specs.Lists.{any, hit}
use Rattle.slots.proofs.Loops.{seek_here, seek_more, seek_all}
use Rattle.rules.specs.Notices.{due_kind}
use Rattle.rules.specs.Moving.{row_bears}
use Rattle.mover.specs.Due.{due_by}
use Rattle.mover.proofs.due.first_due.Goals as goal

pub returns-then-is_notice_due : goal.returns-then-is_notice_due
returns-then-is_notice_due g c =
    let rows = take c.args.sheet.now.hot.used c.args.hot.now in
    let p = due_by c.args.sheet.now rows in
    let n = c.index-notices-at.result in
    seek_here p c.listed-notices.result.now c.loop-at.at c.loop-at.invariant n c.loop-at-test.true c.index-notices-at.is
    (c.if-is_notice_due.ensures
    ∙ ap (λ (h : ℕ). due_kind n.kind n.begin n.end h (any (row_bears n.tag) rows)) c.horizon-horizon.ensures)
    ∙ ap (hit p) c.listed-notices.ensures

pub loop-at-preserved : goal.loop-at-preserved
loop-at-preserved g c =
    let rows = take c.args.sheet.now.hot.used c.args.hot.now in
    let n = c.index-notices-at.result in
    seek_more (due_by c.args.sheet.now rows) c.listed-notices.result.now c.loop-at.at c.loop-at.invariant n c.loop-at-test.true
    c.index-notices-at.is
    (c.if-is_notice_due.ensures
    ∙ ap (λ (h : ℕ). due_kind n.kind n.begin n.end h (any (row_bears n.tag) rows)) c.horizon-horizon.ensures)

pub returns : goal.returns
returns g c =
    let p = due_by c.args.sheet.now (take c.args.sheet.now.hot.used c.args.hot.now) in
    seek_all p c.listed-notices.result.now c.loop-at.at c.loop-at.invariant (omega arith) ∙ ap (hit p) c.listed-notices.ensures
