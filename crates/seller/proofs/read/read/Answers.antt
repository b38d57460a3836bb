use Rattle.std.proofs.Common.{length, take, ap, ◌∙◌, arith}
use Rattle.std.specs.Bool.{then_some}
use Rattle.rules.specs.Looking.{hot_sees}
use Rattle.rules.specs.Selling.{new_line}
use Rattle.scan.specs.Bare.{bare}
use Rattle.std.specs.List.{position_or_len}
use Rattle.seller.proofs.Admission.{entered}
use Rattle.seller.proofs.Looks.{lined_count, read_short, read_served}
use Rattle.seller.proofs.Parts.{answer_of, after_of}
use Rattle.seller.proofs.read.read.Goals as goal

pub returns-then-is_ledger_short-clause-after : goal.returns-then-is_ledger_short-clause-after
returns-then-is_ledger_short-clause-after g c =
    let σ = bare c.args.sheet.now c.args.hot.now c.args.memo.now c.args.ledger.now in
    let given = read_short g.K.Key.number c.args.sheet.now c.args.hot.now c.args.memo.now c.args.ledger.now
    (g.C.ColdStore.entries c.args.cold.now) (g.C.ColdStore.limit c.args.cold.now) (g.F.Filter.admitted c.args.filter.now)
    c.args.session c.args.key c.in_ok-reading.reading c.in_ok-reading.ensures c.then_some-line.result
    (c.then_some-line.ensures ∙ ap (λ b. then_some b (record { session = c.args.session; key = c.args.key }))
    (c.is_line_new.ensures ∙ ap (λ k. new_line g.K.Key.number σ c.in_ok-reading.reading.mode c.args.session k) c.number-number.ensures))
    c.if-is_ledger_short.ensures in
    ap after_of given

pub invariant_of-sheet : goal.invariant_of-sheet
invariant_of-sheet g c =
    let sheet = c.args.sheet.now in
    let long = (entered c.args.sheet.now c.args.hot.now c.args.memo.now c.args.ledger.now c.args.session c.in_ok-reading.ensures).ledger_long in
    let bound = lined_count c.then_some-line.result (length c.args.ledger.now) sheet.ledger.used (omega (arith, sheet.ledger.fits)) in
    record { fits = omega (arith, c.note_line-lines.ensures.count) }

pub returns : goal.returns
returns g c =
    let σ = bare c.args.sheet.now c.args.hot.now c.args.memo.now c.args.ledger.now in
    let rows = take c.args.sheet.now.hot.used c.args.hot.now in
    let sees = hot_sees g.K.Key.number c.args.session c.in_ok-reading.reading.time (g.K.Key.number c.args.key) in
    let given = read_served g.K.Key.number c.args.sheet.now c.args.hot.now c.args.memo.now c.args.ledger.now
    (g.C.ColdStore.entries c.args.cold.now) (g.C.ColdStore.limit c.args.cold.now) (g.F.Filter.admitted c.args.filter.now)
    c.args.session c.args.key c.in_ok-reading.reading c.in_ok-reading.ensures c.then_some-line.result
    (c.then_some-line.ensures ∙ ap (λ b. then_some b (record { session = c.args.session; key = c.args.key }))
    (c.is_line_new.ensures ∙ ap (λ k. new_line g.K.Key.number σ c.in_ok-reading.reading.mode c.args.session k) c.number-number.ensures))
    c.if-is_ledger_short.ensures (position_or_len sees rows) c.lookup-looked.result c.lookup-looked.ensures c.row.ensures
    c.note_line-lines.ensures.list in
    record { answer = ap answer_of given; after = ap after_of given }
