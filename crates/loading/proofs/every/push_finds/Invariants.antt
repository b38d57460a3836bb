use Rattle.std.proofs.Common.{◌≡◌, ◌++◌, drop, vec_items}
use Rattle.loading.specs.Report.{finds_text}
use Rattle.loading.proofs.every.push_finds.Given as goal

-- what is written and what the records that are left add is the whole
abbrev pub invariant-loop-read : goal.invariant-loop-read
invariant-loop-read g l =
    let text = finds_text (g.F.Filter.admitted l.sorted.filter.now) (g.A.ColdStore.entries l.sorted.store.now)
    (g.G.Filter.admitted l.blocks.filter.now) (g.B.ColdStore.entries l.blocks.store.now) in
    vec_items l.out ++ text (drop l.read-index l.records) ≡ vec_items l.initial.out ++ text l.records
