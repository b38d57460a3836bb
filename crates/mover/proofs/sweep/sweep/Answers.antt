use Rattle.std.proofs.Common.{take, sym, ◌∙◌}
use Rattle.slots.proofs.Hits.{hit_none, hit_first, hit_removed}
use Rattle.slots.proofs.Used.{found_changed}
use Rattle.rules.specs.Moving.{with_kind}
use Rattle.mover.specs.Due.{due_by}
use Rattle.mover.proofs.sweep.sweep.Goals as goal

pub returns-in_default : goal.returns-in_default
returns-in_default g c =
    let e = c.if-not-is_lent.ensures in
    let f = hit_none _ _ (sym c.in_default.ensures) in
    record { answer = λ a. rw (← e, f); after = λ a. rw (← e, f) }

pub returns-in-None : goal.returns-in-None
returns-in-None g c =
    let sheet = c.args.sheet.now in
    let due = due_by sheet (take sheet.hot.used c.args.hot.now) in
    let e = c.if-not-is_lent.ensures in
    let q = sym c.in-Some.ensures in
    let f = hit_first _ _ c.in-Some.hit q in
    let b = c.in-None.ensures in
    let notices = c.take_out-sheet.ensures.list ∙ hit_removed due (take sheet.memo.used c.args.memo.now) c.in-Some.hit q in
    record { answer = λ a. rw (← e, f, ← b); after = λ a. rw (← e, f, ← b, notices) }

pub returns-in-Some-after : goal.returns-in-Some-after
returns-in-Some-after g c =
    let sheet = c.args.sheet.now in
    let due = due_by sheet (take sheet.hot.used c.args.hot.now) in
    let kind = c.in-Some-after.kind in
    let e = c.if-not-is_lent.ensures in
    let q = sym c.in-Some.ensures in
    let f = hit_first _ _ c.in-Some.hit q in
    let b = c.in-Some-after.ensures in
    let notices = found_changed due (with_kind kind) sheet.memo.used c.args.memo.now c.in-Some.hit _ q c.empty_out.ensures.notice in
    record {
      answer = λ a. rw (← e, f, ← b);
      after = λ a. rw (← e, f, ← b, notices, c.empty_out.ensures.entry, c.empty_out.ensures.limit);
    }
