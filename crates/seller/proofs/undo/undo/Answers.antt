use Rattle.std.proofs.Common.{map, refl, ap, ◌∙◌, rules}
use Rattle.rules.specs.Stores.{Store, store}
use Rattle.rules.specs.Selling.{close}
use Rattle.scan.specs.Undoing.{row_stays, reopen_row, notice_stays, reopen_notice}
use Rattle.scan.proofs.Undone.{rows_undone, notices_undone}
use Rattle.seller.proofs.Parts.{same_tables}
use Rattle.seller.proofs.undo.undo.Goals as goal

pub returns : goal.returns
returns g c = λ es limit admits.
    let s = c.args.session in
    let σ = store c.args.sheet.now c.args.hot.now c.args.memo.now c.args.ledger.now es limit admits in
    c.close.ensures c.edit_all.new.slots c.edit_all-2.new.slots es limit admits
    ∙ ap (λ (z : Store g.row.K.Denot g.row.R.Denot). close z s)
    (same_tables σ
    (c.edit_all.ensures (reopen_row s) (search rules) ∙ ap (map (reopen_row s)) (c.retain-rows.ensures.list (row_stays s) (search rules))
    ∙ rows_undone s σ.hot)
    (c.edit_all-2.ensures (reopen_notice s) (search rules)
    ∙ ap (map (reopen_notice s)) (c.retain-notices.ensures.list (notice_stays s) (search rules)) ∙ notices_undone s σ.memo) refl)
