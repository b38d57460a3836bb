use Rattle.std.proofs.Common.{◌+◌, ◌≤◌, Bool, true, false, ◌∙◌, arith}
use mir.Val.{bool_byte}
use Rattle.loading.proofs.Loops.{load_more, load_done}
use Rattle.loading.proofs.every.load_all.Goals as goal

byte_le : (b : Bool) → bool_byte b ≤ 1
byte_le true = omega arith
byte_le false = omega arith

pub loop-i-preserved : goal.loop-i-preserved
loop-i-preserved g c =
    let inv = c.loop-i.invariant in
    let p = load_more (g.C.ColdStore.limit c.args.store.now) c.args.records.now c.loop-i.i (c.loop-i.i + 1)
    c.loop-i.count (g.C.ColdStore.entries c.loop-i.store) c.index-records-i.result (g.C.ColdStore.entries c.load.new.store)
    (g.C.ColdStore.limit c.loop-i.store) c.from-count.result c.load.result
    c.loop-i-test.true c.index-records-i.is inv.2 c.load.ensures.after c.load.ensures.answer c.from-count.ensures
    inv.0 inv.1 in
    let fits : c.loop-i.count + c.from-count.result ≤ c.loop-i.i + 1 =
    omega (arith, byte_le c.load.result, c.from-count.ensures, inv.3) in
    (p.0, p.1, c.load.ensures.limit ∙ inv.2, fits)

pub returns : goal.returns
returns g c =
    let inv = c.loop-i.invariant in
    let p = load_done (g.C.ColdStore.limit c.args.store.now) c.args.records.now c.loop-i.i (c.loop-i.i + 1)
    c.loop-i.count (g.C.ColdStore.entries c.loop-i.store) c.loop-i-test.false inv.0 inv.1 in
    record { count = p.1; after = p.0; limit = inv.2 }
