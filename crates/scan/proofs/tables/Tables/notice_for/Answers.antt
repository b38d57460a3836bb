use Rattle.std.proofs.Common.{rules, take}
use Rattle.rules.specs.Looking.{is_for}
use Rattle.scan.proofs.Placing.{hit_is_first}
use Rattle.scan.proofs.tables.Tables.notice_for.Goals as goal

pub returns : goal.returns
returns g c =
    let p = is_for g.K.Key.number c.args.number c.args.tag in
    let e = c.find_first.ensures p (search rules) in
    let f = hit_is_first p (take c.args.self.now.sheet.now.memo.used c.args.self.now.memo.now) in
    search rules
