use Rattle.std.proofs.Common.{◌≡◌, true, is_ok, vec_items, sym, refl, ap, ◌∙◌, arith}
use Rattle.std.proofs.lemmas.Bool.{cond-true}
use Rattle.std.proofs.lemmas.List.{length-map}
use Rattle.cold.specs.Cold.{in_order}
use Rattle.cold.specs.Sorted.{meant, table}
use Rattle.cold.proofs.Meaning.{put_done}
use Rattle.cold.proofs.PutIn.{order_put_in}
use Rattle.cold.proofs.Table.{seat_err, seat_within, inserts}
use Rattle.cold.proofs.halving.SortedStoreColdStore.put.Goals as goal

pub insert-requires : goal.insert-requires
insert-requires g c =
    let xs = vec_items c.args.self.now.items in
    let n = g.K.Key.number c.args.key in
    let k = c.args.self.now.items.ok.0 in
    let w = seat_within g.K.Key.number xs n c.args.tag c.in-Err.at (seat_err g.K.Key.number xs n c.args.tag c.in-Err.at c.in-Err.ensures).1 in
    omega arith

pub invariant_of-self-clause-ordered : goal.invariant_of-self-clause-ordered
invariant_of-self-clause-ordered g c =
    let xs = vec_items c.args.self.now.items in
    let n = g.K.Key.number c.args.key in
    let s = seat_err g.K.Key.number xs n c.args.tag c.in-Err.at c.in-Err.ensures in
    let k = c.args.self.now.items.ok.0 in
    let ok : is_ok c.insert.result ≡ true = c.insert.ensures.succeeds (omega (arith, c.args.self.now.fits, c.args.self.now.roomy)) in
    let i = c.insert.ensures.items ∙ cond-true _ _ _ ok in
    ap (λ ys. in_order (table g.K.Key.number ys)) i
    ∙ ap in_order (inserts g.K.Key.number xs n c.args.tag c.in-Err.at _ refl refl s.1)
    ∙ order_put_in _ (table g.K.Key.number xs) c.args.self.now.ordered s.0

pub returns-clause-after : goal.returns-clause-after
returns-clause-after g c =
    let xs = vec_items c.args.self.now.items in
    let n = g.K.Key.number c.args.key in
    let s = seat_err g.K.Key.number xs n c.args.tag c.in-Err.at c.in-Err.ensures in
    let l = length-map (vec_items c.args.self.now.items) (meant g.K.Key.number) in
    let k = c.args.self.now.items.ok.0 in
    let ok : is_ok c.insert.result ≡ true = c.insert.ensures.succeeds (omega (arith, c.args.self.now.fits, c.args.self.now.roomy)) in
    let i = c.insert.ensures.items ∙ cond-true _ _ _ ok in
    let a = put_done c.args.self.now.limit (table g.K.Key.number xs) n c.args.tag c.args.row s.0 (λ e. let z : ⊥ = omega (arith, e) in z) in
    ap (table g.K.Key.number) i ∙ inserts g.K.Key.number xs n c.args.tag c.in-Err.at _ refl refl s.1 ∙ sym a.1
