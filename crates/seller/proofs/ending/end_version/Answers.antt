use Rattle.std.proofs.Common.{take, ap, ◌∙◌, rules}
use Rattle.slots.proofs.Slots.{take_changed}
use Rattle.rules.specs.Selling.{end_notice}
use Rattle.seller.proofs.ending.end_version.Goals as goal

pub returns-in-Some-Turn-clause-memo : goal.returns-in-Some-Turn-clause-memo
returns-in-Some-Turn-clause-memo g c =
    let list = ap (take c.args.used) (c.edit_at-in-Some-Turn.ensures (end_notice c.args.session) (search rules))
    ∙ take_changed (end_notice c.args.session) c.args.used c.in-Some-Turn.at c.args.memo.now in
    search rules
