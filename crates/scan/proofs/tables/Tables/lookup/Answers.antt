use Rattle.std.proofs.Common.{ℕ, [], take, sym, ap, ◌∙◌, rules}
use Rattle.std.specs.List.{position_or_len}
use Rattle.slots.specs.Lists.{hit}
use Rattle.rules.specs.Stores.{store}
use Rattle.rules.specs.Looking.{hot_sees}
use Rattle.scan.proofs.Lookups.{from_hot, from_none, from_cold}
use Rattle.scan.proofs.tables.Tables.lookup.Goals as goal

pub returns-in-Some : goal.returns-in-Some
returns-in-Some g c =
    let rows = take c.args.self.now.sheet.now.hot.used c.args.self.now.hot.now in
    let sees = λ (n : ℕ). hot_sees g.K.Key.number c.args.reader.session c.args.reader.time n in
    from_hot g.K.Key.number
    (store c.args.self.now.sheet.now c.args.self.now.hot.now c.args.self.now.memo.now [] (g.C.ColdStore.entries c.args.cold.now)
    (g.C.ColdStore.limit c.args.cold.now) (g.F.Filter.admitted c.args.filter.now))
    c.args.reader.session c.args.reader.time (g.K.Key.number c.args.key.now) c.in-Some.hit
    (ap (λ n. hit (sees n) rows) (sym c.number.ensures) ∙ sym (c.find_first.ensures (sees c.number.result) (search rules)) ∙ c.in-Some.is)

pub returns-then-not-admits : goal.returns-then-not-admits
returns-then-not-admits g c =
    let rows = take c.args.self.now.sheet.now.hot.used c.args.self.now.hot.now in
    let sees = λ (n : ℕ). hot_sees g.K.Key.number c.args.reader.session c.args.reader.time n in
    let k = g.K.Key.number c.args.key.now in
    from_none g.K.Key.number
    (store c.args.self.now.sheet.now c.args.self.now.hot.now c.args.self.now.memo.now [] (g.C.ColdStore.entries c.args.cold.now)
    (g.C.ColdStore.limit c.args.cold.now) (g.F.Filter.admitted c.args.filter.now))
    c.args.reader.session c.args.reader.time k (position_or_len (sees k) rows)
    (ap (λ n. hit (sees n) rows) (sym c.number.ensures) ∙ sym (c.find_first.ensures (sees c.number.result) (search rules)) ∙ c.in_default.is)
    (c.if-not-admits.ensures ∙ ap (g.F.Filter.admitted c.args.filter.now) c.number.ensures)

pub returns : goal.returns
returns g c =
    let rows = take c.args.self.now.sheet.now.hot.used c.args.self.now.hot.now in
    let sees = λ (n : ℕ). hot_sees g.K.Key.number c.args.reader.session c.args.reader.time n in
    let k = g.K.Key.number c.args.key.now in
    from_cold g.K.Key.number
    (store c.args.self.now.sheet.now c.args.self.now.hot.now c.args.self.now.memo.now [] (g.C.ColdStore.entries c.args.cold.now)
    (g.C.ColdStore.limit c.args.cold.now) (g.F.Filter.admitted c.args.filter.now))
    c.args.reader.session c.args.reader.time k (position_or_len (sees k) rows)
    (ap (λ n. hit (sees n) rows) (sym c.number.ensures) ∙ sym (c.find_first.ensures (sees c.number.result) (search rules)) ∙ c.in_default.is)
    (c.if-not-admits.ensures ∙ ap (g.F.Filter.admitted c.args.filter.now) c.number.ensures)
    (c.walk_cold.ensures (position_or_len (sees k) rows))
