use Rattle.std.proofs.Common.{vec_items, sym, ap, ◌∙◌, arith}
use Rattle.cold.specs.Cold.{in_order}
use Rattle.cold.specs.Sorted.{table}
use Rattle.cold.proofs.Meaning.{order_removed}
use Rattle.cold.proofs.PutIn.{removed_none}
use Rattle.cold.proofs.Table.{seat_ok, seat_err, seat_below, removes}
use Rattle.cold.proofs.halving.SortedStoreColdStore.remove.Goals as goal

pub returns-in_default-clause-after : goal.returns-in_default-clause-after
returns-in_default-clause-after g c =
    let xs = vec_items c.args.self.now.items in
    let n = g.K.Key.number c.args.key.now in
    sym (removed_none n c.args.tag (table g.K.Key.number xs) (seat_err g.K.Key.number xs n c.args.tag c.in_default.field-0 c.in_default.ensures).0)

pub remove-requires : goal.remove-requires
remove-requires g c =
    let xs = vec_items c.args.self.now.items in
    let n = g.K.Key.number c.args.key.now in
    let k = c.args.self.now.items.ok.0 in
    let s = seat_ok g.K.Key.number xs n c.args.tag c.in-Ok.at c.in-Ok.ensures in
    let b = seat_below g.K.Key.number xs n c.args.tag c.in-Ok.at c.args.self.now.ordered s.1 s.0 in
    omega arith

pub invariant_of-self-clause-ordered : goal.invariant_of-self-clause-ordered
invariant_of-self-clause-ordered g c =
    let xs = vec_items c.args.self.now.items in
    let n = g.K.Key.number c.args.key.now in
    let s = seat_ok g.K.Key.number xs n c.args.tag c.in-Ok.at c.in-Ok.ensures in
    ap (λ ys. in_order (table g.K.Key.number ys)) c.remove.ensures.items
    ∙ ap in_order (removes g.K.Key.number xs n c.args.tag c.in-Ok.at c.args.self.now.ordered s.1 s.0)
    ∙ order_removed n c.args.tag (table g.K.Key.number xs) c.args.self.now.ordered

pub returns-clause-after : goal.returns-clause-after
returns-clause-after g c =
    let xs = vec_items c.args.self.now.items in
    let n = g.K.Key.number c.args.key.now in
    let s = seat_ok g.K.Key.number xs n c.args.tag c.in-Ok.at c.in-Ok.ensures in
    ap (table g.K.Key.number) c.remove.ensures.items
    ∙ removes g.K.Key.number xs n c.args.tag c.in-Ok.at c.args.self.now.ordered s.1 s.0
