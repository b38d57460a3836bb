use Rattle.std.proofs.Common.{vec_items, sym, ◌∙◌, rules, of_calls}
use Rattle.std.proofs.lemmas.Fn.{always_returns_same}
use Rattle.cold.specs.Cold.{below_by}
use Rattle.cold.specs.Sorted.{meant}
use Rattle.cold.proofs.Lists.{prefix_map}
use Rattle.cold.proofs.Places.{parted, parted_at}
use Rattle.cold.proofs.Table.{ordered}
use Rattle.cold.proofs.sorted.SortedStore.place.Goals as goal

pub returns-clause-value : goal.returns-clause-value
returns-clause-value g c =
    let n = g.K.Key.number c.args.key.now in
    let xs = vec_items c.args.self.now.items in
    let o = parted (λ y. g.K.Key.number y.key) (λ y. y.tag) n c.args.tag xs (ordered g.K.Key.number xs c.args.self.now.ordered) in
    let p = c.partition_point.ensures.partitioned (λ y. below_by (g.K.Key.number y.key) y.tag n c.args.tag)
    (always_returns_same _ _ _ (λ a r q k. search (rules, of_calls))) (rw c.deref.ensures.value o) in
    parted_at (λ y. below_by (g.K.Key.number y.key) y.tag n c.args.tag) c.deref.result.now c.partition_point.result c.partition_point.ensures.bound p
    ∙ rw c.deref.ensures.value (sym (prefix_map (meant g.K.Key.number) (λ e. below_by e.number e.tag n c.args.tag) xs))
