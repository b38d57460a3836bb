use Rattle.std.proofs.Common.{rules, take, ◌∙◌}
use Rattle.slots.specs.Lists.{one}
use Rattle.rules.specs.declared.tables.MoveMark.TheVariants.{Unmoved}
use Rattle.rules.specs.Moving.{row_bears, with_mark}
use Rattle.mover.proofs.Parts.{none_edited}
use Rattle.mover.proofs.give_up.give_up.Goals as goal

pub returns-then-not-edit_first : goal.returns-then-not-edit_first
returns-then-not-edit_first g c =
    let tag = c.args.moving.tag in
    let e = c.if-not-is_lent.ensures in
    let found = c.if-not-edit_first.ensures.answer (row_bears tag) (λ x r k. search rules) in
    let rows = c.edit_first.ensures.list (row_bears tag) (with_mark Unmoved) (λ x r k. search rules) (λ x y k. search rules)
    ∙ none_edited (row_bears tag) (λ x. one (with_mark Unmoved x)) (take c.args.sheet.now.hot.used c.args.hot.now) found in
    record {
      answer = λ es l a. rw (← e, ← found);
      after = λ es l a. rw (← e, ← found, rows);
      hand = search rules;
    }

pub returns : goal.returns
returns g c =
    let tag = c.args.moving.tag in
    let e = c.if-not-is_lent.ensures in
    let found = c.if-not-edit_first.ensures.answer (row_bears tag) (λ x r k. search rules) in
    let rows = c.edit_first.ensures.list (row_bears tag) (with_mark Unmoved) (λ x r k. search rules) (λ x y k. search rules) in
    record {
      answer = λ es l a. rw (← e, ← found);
      after = λ es l a. rw (← e, ← found, rows);
      hand = search rules;
    }
