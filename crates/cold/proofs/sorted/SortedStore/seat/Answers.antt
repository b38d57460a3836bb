use Rattle.std.proofs.Common.{true, false, vec_items, ◌∙◌, subst}
use Rattle.std.specs.Slice.{IsItemAt}
use Rattle.cold.specs.Cold.{is_of}
use Rattle.cold.proofs.Table.{read_some, read_none, seated}
use Rattle.cold.proofs.sorted.SortedStore.seat.Goals as goal

pub returns-in-Some : goal.returns-in-Some
returns-in-Some g c =
    let xs = vec_items c.args.self.now.items in
    let n = g.K.Key.number c.args.key.now in
    seated g.K.Key.number xs n c.args.tag c.place-at.result true c.args.self.now.ordered c.place-at.ensures.value
    (c.if-is_of.ensures ∙ read_some g.K.Key.number xs c.deref.result.now c.place-at.result false (is_of n c.args.tag) c.in-Some.h c.deref.ensures.value
    c.in-Some.ensures.lookup)

pub returns-in_default : goal.returns-in_default
returns-in_default g c =
    let xs = vec_items c.args.self.now.items in
    let n = g.K.Key.number c.args.key.now in
    seated g.K.Key.number xs n c.args.tag c.place-at.result false c.args.self.now.ordered c.place-at.ensures.value
    (c.if-is_of.ensures ∙ read_some g.K.Key.number xs c.deref.result.now c.place-at.result false (is_of n c.args.tag) c.in-Some.h c.deref.ensures.value
    c.in-Some.ensures.lookup)

pub returns-in_default-2 : goal.returns-in_default-2
returns-in_default-2 g c =
    let xs = vec_items c.args.self.now.items in
    let n = g.K.Key.number c.args.key.now in
    seated g.K.Key.number xs n c.args.tag c.place-at.result false c.args.self.now.ordered c.place-at.ensures.value
    (read_none g.K.Key.number xs c.deref.result.now c.place-at.result false (is_of n c.args.tag) c.deref.ensures.value
    (subst (IsItemAt c.deref.result.now c.place-at.result) c.in_default.is c.get.ensures.lookup))
