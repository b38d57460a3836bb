use Rattle.std.proofs.Common.{leb, sym, refl, ap, ◌∙◌, rules}
use Rattle.rules.specs.Selling.{with_row}
use Rattle.rules.specs.Told.{told_done}
use Rattle.seller.proofs.Parts.{answer_of, after_of, left_by}
use Rattle.seller.proofs.Puts.{put_own, put_full, put_unnoted, put_served}
use Rattle.seller.proofs.put.put.Goals as goal

pub returns-in-Some : goal.returns-in-Some
returns-in-Some g c =
    let given = put_own g.K.Key.number c.args.sheet.now c.args.hot.now c.args.memo.now c.args.ledger.now
    (g.C.ColdStore.entries c.args.cold.now) (g.C.ColdStore.limit c.args.cold.now) (g.F.Filter.admitted c.args.filter.now)
    c.args.session c.args.key c.args.row c.in_ok-reading.reading c.in_ok-reading.ensures c.number-number.result c.number-number.ensures
    c.if-is_conflict.ensures c.in-Some.at c.in-Some.ensures (c.edit_at.ensures (with_row c.args.row) (search rules)) in
    record { answer = ap answer_of given; after = ap after_of given }

pub returns-then-is_full : goal.returns-then-is_full
returns-then-is_full g c =
    let given = put_full g.K.Key.number c.args.sheet.now c.args.hot.now c.args.memo.now c.args.ledger.now
    (g.C.ColdStore.entries c.args.cold.now) (g.C.ColdStore.limit c.args.cold.now) (g.F.Filter.admitted c.args.filter.now)
    c.args.session c.args.key c.args.row c.in_ok-reading.reading c.in_ok-reading.ensures c.number-number.result c.number-number.ensures
    c.if-is_conflict.ensures (sym c.in_default.is ∙ c.own_place.ensures) c.if-is_full.ensures in
    record { answer = ap answer_of given; after = ap after_of given }

pub returns-in_err-ending : goal.returns-in_err-ending
returns-in_err-ending g c =
    let given = put_unnoted g.K.Key.number c.args.sheet.now c.args.hot.now c.args.memo.now c.args.ledger.now
    (g.C.ColdStore.entries c.args.cold.now) (g.C.ColdStore.limit c.args.cold.now) (g.F.Filter.admitted c.args.filter.now)
    c.args.session c.args.key c.args.row c.in_ok-reading.reading c.in_ok-reading.ensures c.number-number.result c.number-number.ensures
    c.if-is_conflict.ensures (sym c.in_default.is ∙ c.own_place.ensures) c.if-is_full.ensures c.lookup-looked.result c.lookup-looked.ensures
    (leb c.args.sheet.now.memo.length c.args.sheet.now.memo.used) refl c.in_err-ending.ensures in
    record {
      answer = ap told_done (left_by c.from_residual-in_err-ending.result _ c.from_residual-in_err-ending.ensures.1) ∙ ap answer_of given;
      after = ap after_of given;
    }

pub returns : goal.returns
returns g c =
    let given = put_served g.K.Key.number c.args.sheet.now c.args.hot.now c.args.memo.now c.args.ledger.now
    (g.C.ColdStore.entries c.args.cold.now) (g.C.ColdStore.limit c.args.cold.now) (g.F.Filter.admitted c.args.filter.now)
    c.args.session c.args.key c.args.row c.in_ok-reading.reading c.in_ok-reading.ensures c.number-number.result c.number-number.ensures
    c.if-is_conflict.ensures (sym c.in_default.is ∙ c.own_place.ensures) c.if-is_full.ensures c.lookup-looked.result c.lookup-looked.ensures
    (leb c.args.sheet.now.memo.length c.args.sheet.now.memo.used) refl c.in_ok-ending.ensures
    c.end_version-notices.new.hot c.end_version-notices.ensures.hot c.end_version-notices.auto.hot
    c.append-rows.ensures.list c.end_version-notices.ensures.memo in
    record { answer = ap answer_of given; after = ap after_of given }
