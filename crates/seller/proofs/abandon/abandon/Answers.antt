use Rattle.std.proofs.Common.{ℕ, Bool, List, ap, ◌∙◌}
use Rattle.cold.specs.Cold.{Entry}
use Rattle.rules.specs.Stores.{store, lent}
use Rattle.seller.proofs.Ends.{abandon_served}
use Rattle.seller.proofs.Parts.{after_of}
use Rattle.seller.proofs.abandon.abandon.Goals as goal

pub returns-clause-after : goal.returns-clause-after
returns-clause-after g c =
    let given = λ (es : List (Entry g.row.R.Denot)) (limit : ℕ) (admits : ℕ → Bool).
    abandon_served (lent c.args.hot.now c.args.memo.now c.args.ledger.now)
    (store c.args.sheet.now c.args.hot.now c.args.memo.now c.args.ledger.now es limit admits) c.args.session
    c.in_ok-admit.ensures in
    λ es limit admits. c.undo.ensures es limit admits ∙ ap after_of (given es limit admits)
