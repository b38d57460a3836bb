use Rattle.std.proofs.Common.{◌≡◌, ◌+◌, ◌≤◌, drop}
use Rattle.loading.specs.Loading.{loaded, served}
use Rattle.loading.proofs.every.load_all.Given as goal

-- what is left gives the answer
abbrev pub invariant-loop-i : goal.invariant-loop-i
invariant-loop-i g l =
    let limit = g.C.ColdStore.limit l.initial.store in
    let es = g.C.ColdStore.entries l.initial.store in
    let now = g.C.ColdStore.entries l.store in
    let left = drop l.i l.records in
    (loaded limit now (l.i + 1) left ≡ loaded limit es 1 l.records)
    × (l.count + served limit now (l.i + 1) left ≡ served limit es 1 l.records)
    × (g.C.ColdStore.limit l.store ≡ limit)
    × (l.count ≤ l.i)
