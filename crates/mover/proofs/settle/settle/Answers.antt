use Rattle.std.proofs.Common.{rules, take, sym, ◌∙◌}
use Rattle.slots.proofs.Hits.{hit_none, hit_first, hit_removed}
use Rattle.rules.specs.Times.{begin_stamp}
use Rattle.rules.specs.Looking.{is_for}
use Rattle.rules.specs.Moving.{row_copied, settle_notice}
use Rattle.mover.proofs.settle.settle.Goals as goal

pub returns-in_default : goal.returns-in_default
returns-in_default g c =
    let e = c.if-not-is_lent.ensures in
    let none = c.in_default.ensures (row_copied c.args.moving.tag) (λ x r k. search rules) in
    let f = hit_none _ _ (sym none) in
    record { answer = λ es l a. rw (← e, f); after = λ es l a. rw (← e, f); hand = search rules }

pub returns : goal.returns
returns g c =
    let tag = c.args.moving.tag in
    let h = c.in-Some.hit in
    let sheet = c.args.sheet.now in
    let e = c.if-not-is_lent.ensures in
    let q = sym (c.in-Some.ensures (row_copied tag) (λ x r k. search rules)) in
    let f = hit_first _ _ h q in
    let rows = c.take_out-sheet.ensures.list ∙ hit_removed (row_copied tag) (take sheet.hot.used c.args.hot.now) h q in
    let notices = c.edit_first.ensures.list (is_for g.K.Key.number (g.K.Key.number h.it.key) tag) (settle_notice (begin_stamp h.it.begin))
    (λ x r k. search rules) (λ x y k. search rules) in
    record {
      answer = λ es l a. rw (← e, f);
      after = λ es l a. rw (← e, f, rows, notices);
      hand = search rules;
    }
