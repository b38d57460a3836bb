use Rattle.std.proofs.Common.{leb, length, sym, refl, ap, ◌∙◌, arith}
use Rattle.std.specs.Bool.{then_some}
use Rattle.rules.specs.Told.{told_was}
use Rattle.seller.proofs.Admission.{entered}
use Rattle.seller.proofs.Drops.{drop_short, dropped_own, drop_unnoted, drop_served}
use Rattle.seller.proofs.Looks.{lined_count}
use Rattle.seller.proofs.Parts.{answer_of, after_of, left_by}
use Rattle.seller.proofs.drop.drop.Goals as goal

pub returns-then-is_ledger_short-clause-after : goal.returns-then-is_ledger_short-clause-after
returns-then-is_ledger_short-clause-after g c =
    let given = drop_short g.K.Key.number c.args.sheet.now c.args.hot.now c.args.memo.now c.args.ledger.now
    (g.C.ColdStore.entries c.args.cold.now) (g.C.ColdStore.limit c.args.cold.now) (g.F.Filter.admitted c.args.filter.now)
    c.args.session c.args.key c.in_ok-reading.reading c.in_ok-reading.ensures c.number-number.result c.number-number.ensures
    c.if-is_conflict.ensures c.then_some-line.result (c.then_some-line.ensures ∙ ap (λ b. then_some b (record { session = c.args.session; key = c.args.key })) c.is_line_new.ensures) c.if-is_ledger_short.ensures in
    ap after_of given

pub invariant_of-sheet-in-Some : goal.invariant_of-sheet-in-Some
invariant_of-sheet-in-Some g c =
    let sheet = c.args.sheet.now in
    let w = entered c.args.sheet.now c.args.hot.now c.args.memo.now c.args.ledger.now c.args.session c.in_ok-reading.ensures in
    let lines = lined_count c.then_some-line.result (length c.args.ledger.now) sheet.ledger.used
    (omega (arith, w.ledger_long, sheet.ledger.fits)) in
    record { fits = omega (arith, w.ledger_long, c.note_line-lines.ensures.count) }

pub returns-in-Some : goal.returns-in-Some
returns-in-Some g c =
    let given = dropped_own g.K.Key.number c.args.sheet.now c.args.hot.now c.args.memo.now c.args.ledger.now
    (g.C.ColdStore.entries c.args.cold.now) (g.C.ColdStore.limit c.args.cold.now) (g.F.Filter.admitted c.args.filter.now)
    c.args.session c.args.key c.in_ok-reading.reading c.in_ok-reading.ensures c.number-number.result c.number-number.ensures
    c.if-is_conflict.ensures c.then_some-line.result (c.then_some-line.ensures ∙ ap (λ b. then_some b (record { session = c.args.session; key = c.args.key })) c.is_line_new.ensures) c.if-is_ledger_short.ensures
    c.in-Some.at c.in-Some.ensures c.take_out-rows.ensures.list c.note_line-lines.ensures.list in
    record { answer = ap answer_of given; after = ap after_of given }

pub returns-in_err-ending : goal.returns-in_err-ending
returns-in_err-ending g c =
    let given = drop_unnoted g.K.Key.number c.args.sheet.now c.args.hot.now c.args.memo.now c.args.ledger.now
    (g.C.ColdStore.entries c.args.cold.now) (g.C.ColdStore.limit c.args.cold.now) (g.F.Filter.admitted c.args.filter.now)
    c.args.session c.args.key c.in_ok-reading.reading c.in_ok-reading.ensures c.number-number.result c.number-number.ensures
    c.if-is_conflict.ensures c.then_some-line.result (c.then_some-line.ensures ∙ ap (λ b. then_some b (record { session = c.args.session; key = c.args.key })) c.is_line_new.ensures) c.if-is_ledger_short.ensures (sym c.in_default.is ∙ c.own_place.ensures) c.lookup-looked.result c.lookup-looked.ensures
    (leb c.args.sheet.now.memo.length c.args.sheet.now.memo.used) refl c.in_err-ending.ensures in
    record {
      answer = ap told_was (left_by c.from_residual-in_err-ending.result _ c.from_residual-in_err-ending.ensures.1) ∙ ap answer_of given;
      after = ap after_of given;
    }

pub returns : goal.returns
returns g c =
    let given = drop_served g.K.Key.number c.args.sheet.now c.args.hot.now c.args.memo.now c.args.ledger.now
    (g.C.ColdStore.entries c.args.cold.now) (g.C.ColdStore.limit c.args.cold.now) (g.F.Filter.admitted c.args.filter.now)
    c.args.session c.args.key c.in_ok-reading.reading c.in_ok-reading.ensures c.number-number.result c.number-number.ensures
    c.if-is_conflict.ensures c.then_some-line.result (c.then_some-line.ensures ∙ ap (λ b. then_some b (record { session = c.args.session; key = c.args.key })) c.is_line_new.ensures) c.if-is_ledger_short.ensures (sym c.in_default.is ∙ c.own_place.ensures) c.lookup-looked.result c.lookup-looked.ensures
    (leb c.args.sheet.now.memo.length c.args.sheet.now.memo.used) refl c.in_ok-ending.ensures
    c.is_some.ensures c.end_version-notices.ensures.hot c.end_version-notices.ensures.memo c.note_line-lines-2.ensures.list in
    record { answer = ap answer_of given; after = ap after_of given }
