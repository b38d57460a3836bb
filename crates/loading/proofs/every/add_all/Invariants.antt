use Rattle.std.proofs.Common.{◌≡◌, ℕ, true, take}
use Rattle.cold.specs.Lists.{all}
use Rattle.loading.proofs.every.add_all.Given as goal

abbrev pub invariant-loop-read : goal.invariant-loop-read
invariant-loop-read g l =
    (all (λ r. g.F.Filter.admitted l.filter r.key.id) (take l.read-index l.records) ≡ true)
    × ((h : ℕ) → g.F.Filter.admitted l.initial.filter h ≡ true → g.F.Filter.admitted l.filter h ≡ true)
