use Rattle.std.proofs.Common.{◌≡◌, ◌≤◌, ap, ◌∙◌, rules, of_calls, vec_items}
use Rattle.std.specs.Slice.Iter.{iter_rest}
use Rattle.std.proofs.lemmas.Option.{IfSome_then}
use Rattle.blocks.specs.Blocks.{has_own, tag_of, cut}
use Rattle.blocks.proofs.Least.{if_some, each_own, not_below}
use Rattle.blocks.proofs.store.BlockStore.nearest.Goals as goal

pub returns-clause-least : goal.returns-clause-least
returns-clause-least g c =
    let r = c.min_by_key.ensures.runs in
    let p = r.0 in
    let f = c.filter.ensures.runs p p.seen r.1 in
    let q = f.0 in
    let all = (c.iter.ensures.runs q q.seen).4 (f.2.0 ∙ r.2) in
    let kept = f.2.4 (λ b. has_own c.args.number c.args.tag b.now) (λ x a k h. search (rules, of_calls)) in
    if_some c.min_by_key.result _ _ _ r.3 (λ m z.
    let k = z.1 (search (rules, of_calls)) in
    let t : k.0 ≡ tag_of m.now = search (rules, of_calls) in
    each_own (has_own c.args.number c.args.tag) (λ b. tag_of m.now ≤ tag_of b) p q (cut 32 c.args.self.now.limit (vec_items c.args.self.now.bytes)) kept
    (all ∙ ap iter_rest f.1 ∙ c.iter.ensures.rest ∙ c.blocks-2.ensures)
    (λ i. IfSome_then (p.at i) (k.2 i) (λ x w.
    let u : w.0 ≡ tag_of x.now = search (rules, of_calls) in
    not_below w.0 k.0 (tag_of m.now) (tag_of x.now) w.2 u t)))
