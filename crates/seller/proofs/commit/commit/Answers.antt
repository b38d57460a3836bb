use Rattle.std.proofs.Common.{ℕ, ◌+◌, Bool, List, refl, ap, ◌∙◌, rules}
use Rattle.cold.specs.Cold.{Entry}
use Rattle.rules.specs.Stores.{Store, store, lent, with_clock}
use Rattle.rules.specs.Selling.{close, stamp_row, stamp_notice}
use Rattle.seller.proofs.Ends.{commit_unmarked, commit_stale, commit_stamped}
use Rattle.seller.proofs.Parts.{answer_of, after_of, same_tables}
use Rattle.seller.proofs.commit.commit.Goals as goal

pub returns-then-not-is_marked-clause-after : goal.returns-then-not-is_marked-clause-after
returns-then-not-is_marked-clause-after g c =
    let given = λ (es : List (Entry g.row.R.Denot)) (limit : ℕ) (admits : ℕ → Bool).
    commit_unmarked g.K.Key.number (lent c.args.hot.now c.args.memo.now c.args.ledger.now)
    (store c.args.sheet.now c.args.hot.now c.args.memo.now c.args.ledger.now es limit admits) c.args.session c.in_ok-reading.reading c.in_ok-reading.ensures c.if-not-is_marked.ensures in
    λ es limit admits. c.close.ensures c.args.hot.now c.args.memo.now es limit admits ∙ ap after_of (given es limit admits)

pub returns-then-is_stale : goal.returns-then-is_stale
returns-then-is_stale g c =
    let given = λ (es : List (Entry g.row.R.Denot)) (limit : ℕ) (admits : ℕ → Bool).
    commit_stale g.K.Key.number (lent c.args.hot.now c.args.memo.now c.args.ledger.now)
    (store c.args.sheet.now c.args.hot.now c.args.memo.now c.args.ledger.now es limit admits) c.args.session c.in_ok-reading.reading c.in_ok-reading.ensures c.if-not-is_marked.ensures c.if-is_stale.ensures in
    record {
      answer = λ es limit admits. ap answer_of (given es limit admits);
      after = λ es limit admits. c.undo.ensures es limit admits ∙ ap after_of (given es limit admits);
    }

pub returns : goal.returns
returns g c =
    let given = λ (es : List (Entry g.row.R.Denot)) (limit : ℕ) (admits : ℕ → Bool).
    commit_stamped g.K.Key.number (lent c.args.hot.now c.args.memo.now c.args.ledger.now)
    (store c.args.sheet.now c.args.hot.now c.args.memo.now c.args.ledger.now es limit admits) c.args.session c.in_ok-reading.reading c.in_ok-reading.ensures c.if-not-is_marked.ensures c.if-is_stale.ensures c.if-sheet-ge-LAST_STAMP.false in
    record {
      answer = λ es limit admits. ap answer_of (given es limit admits);
      after = λ es limit admits.
          c.close-2.ensures c.edit_all.new.slots c.edit_all-2.new.slots es limit admits
          ∙ ap (λ (z : Store g.row.K.Denot g.row.R.Denot). close (with_clock z (c.args.sheet.now.clock + 1)) c.args.session)
          (same_tables (store c.args.sheet.now c.args.hot.now c.args.memo.now c.args.ledger.now es limit admits)
          (c.edit_all.ensures (stamp_row c.args.session (c.args.sheet.now.clock + 1)) (search rules))
          (c.edit_all-2.ensures (stamp_notice c.args.session (c.args.sheet.now.clock + 1)) (search rules)) refl)
          ∙ ap after_of (given es limit admits);
    }
