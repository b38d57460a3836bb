use Rattle.std.proofs.Common.{◌≡◌, ℕ, ◌+◌, ◌<◌, length, take, Some, sym, refl, ap, ◌∙◌, arith, rules}
use Rattle.cold.specs.declared.store.Found.{Found}
use Rattle.cold.specs.Cold.{own}
use Rattle.cold.proofs.Meaning.{length_own}
use Rattle.rules.specs.Looking.{noted_sees, notice_for, walk}
use Rattle.scan.specs.declared.looked.Place.TheVariants.{Cold}
use Rattle.scan.specs.Told.{looked_at}
use Rattle.scan.proofs.Walking.{own_split, own_shorter, walk_here, walk_more, walk_last, walk_none}
use Rattle.scan.proofs.tables.Tables.walk_cold.Goals as goal

pub loop-found-init : goal.loop-found-init
loop-found-init g c =
    let h = length_own (g.K.Key.number c.args.key.now) 0 (g.C.ColdStore.entries c.args.cold.now) in
    (refl, omega arith)

pub returns-then-is_entry_seen : goal.returns-then-is_entry_seen
returns-then-is_entry_seen g c =
    let n = g.K.Key.number c.args.key.now in
    let es = g.C.ColdStore.entries c.args.cold.now in
    let sees = λ (m tag : ℕ). noted_sees (notice_for g.K.Key.number (take c.args.self.now.sheet.now.memo.used c.args.self.now.memo.now) m tag)
    c.args.reader.session c.args.reader.time in
    let p = own_split n c.loop-found.tag es (g.met.C.ColdStore.ordered c.args.cold.now) c.in-Some.found c.in-Some.ensures in
    λ i. ap (λ (z : Found g.row.R.Denot). record { seen = Some (record { row = z.row; place = Cold z.tag }); finds = c.loop-found.finds + 1 }) (sym p.is)
    ∙ ap (looked_at i)
    (walk_here n c.loop-found.tag es (g.met.C.ColdStore.ordered c.args.cold.now) sees c.loop-found.finds c.loop-found.invariant.0
    c.in-Some.found c.in-Some.ensures (c.if-is_entry_seen.ensures ∙ ap (λ m. sees m c.in-Some.found.tag) c.number.ensures))

pub returns-in_default-checked_add : goal.returns-in_default-checked_add
returns-in_default-checked_add g c =
    let n = g.K.Key.number c.args.key.now in
    let es = g.C.ColdStore.entries c.args.cold.now in
    let sees = λ (m tag : ℕ). noted_sees (notice_for g.K.Key.number (take c.args.self.now.sheet.now.memo.used c.args.self.now.memo.now) m tag)
    c.args.reader.session c.args.reader.time in
    λ i. ap (looked_at i)
    (walk_last n c.loop-found.tag es (g.met.C.ColdStore.ordered c.args.cold.now) sees c.loop-found.finds c.loop-found.invariant.0
    c.in-Some.found c.in-Some.ensures (c.if-is_entry_seen.ensures ∙ ap (λ m. sees m c.in-Some.found.tag) c.number.ensures)
    (omega arith))

pub loop-found-smaller : goal.loop-found-smaller
loop-found-smaller g c =
    let n = g.K.Key.number c.args.key.now in
    let es = g.C.ColdStore.entries c.args.cold.now in
    let next : c.in-Some-checked_add.next ≡ c.in-Some.found.tag + 1 = search rules in
    let s = own_shorter n c.loop-found.tag es (g.met.C.ColdStore.ordered c.args.cold.now) c.in-Some.found c.in-Some.ensures in
    omega (arith, ap (λ t. length (own n t es)) next)

pub loop-found-preserved : goal.loop-found-preserved
loop-found-preserved g c =
    let n = g.K.Key.number c.args.key.now in
    let es = g.C.ColdStore.entries c.args.cold.now in
    let o = g.met.C.ColdStore.ordered c.args.cold.now in
    let sees = λ (m tag : ℕ). noted_sees (notice_for g.K.Key.number (take c.args.self.now.sheet.now.memo.used c.args.self.now.memo.now) m tag)
    c.args.reader.session c.args.reader.time in
    let next : c.in-Some-checked_add.next ≡ c.in-Some.found.tag + 1 = search rules in
    let below : c.in-Some.found.tag + 1 < 4294967296 = search rules in
    let s = own_shorter n c.loop-found.tag es o c.in-Some.found c.in-Some.ensures in (
      ap (λ t. walk {K = g.row.K.Denot} (λ e. sees e.number e.tag) (own n t es) (c.loop-found.finds + 1)) next
          ∙ walk_more n c.loop-found.tag es o sees c.loop-found.finds c.loop-found.invariant.0
          c.in-Some.found c.in-Some.ensures (c.if-is_entry_seen.ensures ∙ ap (λ m. sees m c.in-Some.found.tag) c.number.ensures)
          (omega arith),
      omega (arith, c.loop-found.invariant.1, ap (λ t. length (own n t es)) next),
    )

pub returns : goal.returns
returns g c =
    let n = g.K.Key.number c.args.key.now in
    let es = g.C.ColdStore.entries c.args.cold.now in
    let sees = λ (m tag : ℕ). noted_sees (notice_for g.K.Key.number (take c.args.self.now.sheet.now.memo.used c.args.self.now.memo.now) m tag)
    c.args.reader.session c.args.reader.time in
    λ i. ap (looked_at i)
    (walk_none n c.loop-found.tag es (g.met.C.ColdStore.ordered c.args.cold.now) sees c.loop-found.finds c.loop-found.invariant.0
    (sym c.in_default.is ∙ c.find.ensures))
