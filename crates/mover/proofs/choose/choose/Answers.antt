use Rattle.std.proofs.Common.{rules, ◌≡◌, ◌+◌, true, false, length, take, sym, Some, ◌∙◌, arith}
use Rattle.std.proofs.lemmas.Bool.{leb-false, le-leb, lt-leb}
use Rattle.slots.specs.Lists.{first, hit}
use Rattle.slots.proofs.Hits.{hit_none, hit_first}
use Rattle.slots.proofs.Slots.{appended_more}
use Rattle.slots.proofs.Used.{found_changed}
use Rattle.rules.specs.declared.tables.MoveMark.TheVariants.{Chosen}
use Rattle.rules.specs.Stores.{lent, lengths_of}
use Rattle.rules.specs.Moving.{unmoved, movable, with_mark, new_pending}
use Rattle.mover.proofs.Parts.{memos_are, room_left}
use Rattle.mover.proofs.choose.choose.Given as given
use Rattle.mover.proofs.choose.choose.Goals as goal
use Rattle.mover.proofs.choose.choose.Goals.{After-ne}

pub returns-in_err-hit : goal.returns-in_err-hit
returns-in_err-hit g c =
    let p = movable g.K.Key.number (g.K.Key.number c.args.key) in
    let xs = take c.args.sheet.now.hot.used c.args.hot.now in
    let found : c.find_first.result ≡ hit p xs = c.find_first.ensures p (λ x r k. search rules) in
    let f = hit_none p xs (sym found ∙ c.in_err-hit.ensures.ok_part) in
    record {
      answer = λ es l a. rw (← c.if-not-is_lent.ensures, f) (search rules);
      after = λ es l a. rw (← c.if-not-is_lent.ensures, f);
    }

-- the row that is found
row_hit : (g : given.Over) (c : After-ne g)
    → hit (movable g.K.Key.number (g.K.Key.number c.args.key)) (take c.args.sheet.now.hot.used c.args.hot.now) ≡ Some c.in_ok-hit.hit
row_hit g c =
    let p = movable g.K.Key.number (g.K.Key.number c.args.key) in
    let xs = take c.args.sheet.now.hot.used c.args.hot.now in
    let found : c.find_first.result ≡ hit p xs = c.find_first.ensures p (λ x r k. search rules) in
    sym found ∙ c.in_ok-hit.ensures.ok_part

row_is : (g : given.Over) (c : After-ne g)
    → first (movable g.K.Key.number (g.K.Key.number c.args.key)) (take c.args.sheet.now.hot.used c.args.hot.now) ≡ Some c.in_ok-hit.hit.it
row_is g c = hit_first _ _ c.in_ok-hit.hit (row_hit g c)

pub returns-then-ne : goal.returns-then-ne
returns-then-ne g c =
    let f = row_is g (goal.at.returns-then-ne g c).After-ne in
    let m : unmoved c.in_ok-hit.hit.it.mark ≡ false = search rules in
    record {
      answer = λ es l a. rw (← c.if-not-is_lent.ensures, f, m);
      after = λ es l a. rw (← c.if-not-is_lent.ensures, f, m);
    }

pub returns-then-sheet-ge-LAST_TAG : goal.returns-then-sheet-ge-LAST_TAG
returns-then-sheet-ge-LAST_TAG g c =
    let f = row_is g (goal.at.returns-then-sheet-ge-LAST_TAG g c).After-ne in
    let m : unmoved c.in_ok-hit.hit.it.mark ≡ true = search rules in
    let t = le-leb 4000000000 c.args.sheet.now.last_tag c.if-sheet-ge-LAST_TAG.true in
    record {
      answer = λ es l a. rw (← c.if-not-is_lent.ensures, f, m, t);
      after = λ es l a. rw (← c.if-not-is_lent.ensures, f, m, t);
    }

pub returns-then-is_full : goal.returns-then-is_full
returns-then-is_full g c =
    let sheet = c.args.sheet.now in
    let e = c.if-not-is_lent.ensures in
    let f = row_is g (goal.at.returns-then-is_full g c).After-ne in
    let m : unmoved c.in_ok-hit.hit.it.mark ≡ true = search rules in
    let t = lt-leb 4000000000 sheet.last_tag c.if-sheet-ge-LAST_TAG.false in
    let room = memos_are (lent c.args.hot.now c.args.memo.now c.args.ledger.now) (lengths_of sheet) e in
    let full = room_left sheet.memo c.args.memo.now room ∙ sym c.if-is_full.ensures in
    record {
      answer = λ es l a. rw (← e, f, m, t, full);
      after = λ es l a. rw (← e, f, m, t, full);
    }

pub returns : goal.returns
returns g c =
    let sheet = c.args.sheet.now in
    let memo = c.args.memo.now in
    let e = c.if-not-is_lent.ensures in
    let q = row_hit g (goal.at.returns g c).After-ne in
    let f = row_is g (goal.at.returns g c).After-ne in
    let m : unmoved c.in_ok-hit.hit.it.mark ≡ true = search rules in
    let t = lt-leb 4000000000 sheet.last_tag c.if-sheet-ge-LAST_TAG.false in
    let room = memos_are (lent c.args.hot.now c.args.memo.now c.args.ledger.now) (lengths_of sheet) e in
    let free = room_left sheet.memo memo room ∙ sym c.if-is_full.ensures in
    let below = leb-false sheet.memo.length sheet.memo.used (sym c.if-is_full.ensures) in
    let tag = sheet.last_tag + 1 in
    let edit = c.edit_at.ensures (with_mark (Chosen tag)) (λ x y k. search rules) in
    let rows = found_changed _ (with_mark (Chosen tag)) sheet.hot.used c.args.hot.now c.in_ok-hit.hit _ q edit in
    let notices = c.append-sheet.ensures.list
    ∙ appended_more (length memo) sheet.memo.used (new_pending c.args.key tag) (take sheet.memo.used memo) (omega arith) in
    record {
      answer = λ es l a. rw (← e, f, m, t, free);
      after = λ es l a. rw (← e, f, m, t, free, rows, notices);
    }
