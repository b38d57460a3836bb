use Rattle.std.proofs.Common.{◌≡◌, true, false, eqb, None, vec_items, sym, ap, ◌∙◌, subst, rules}
use Rattle.std.specs.Slice.{IsItemAt}
use Rattle.std.proofs.lemmas.Bool.{cond-true, cond-false}
use Rattle.cold.specs.Lists.{nth}
use Rattle.cold.specs.Sorted.{table, of_key}
use Rattle.cold.proofs.Places.{found_at}
use Rattle.cold.proofs.Table.{read_some, read_none}
use Rattle.cold.proofs.halving.SortedStoreColdStore.find.Goals as goal
use Rattle.cold.proofs.halving.SortedStoreColdStore.find.Goals.{in_default-via-in-Some+else-number, in_default-via-in_default}

pub returns-in-Some : goal.returns-in-Some
returns-in-Some g c =
    let xs = vec_items c.args.self.now.items in
    let n = g.K.Key.number c.args.key.now in
    let e : eqb (g.K.Key.number c.in-Some.h.now.key) n ≡ true = search rules in
    sym (cond-true _ _ None e)
    ∙ read_some g.K.Key.number xs c.deref.result.now c.place.result None (of_key n) c.in-Some.h c.deref.ensures.value c.in-Some.ensures.lookup
    ∙ ap (λ i. nth (table g.K.Key.number xs) i None (of_key n)) c.place.ensures.value
    ∙ found_at n c.args.tag (table g.K.Key.number xs) c.args.self.now.ordered

pub returns-in_default : goal.returns-in_default
returns-in_default g c =
    let xs = vec_items c.args.self.now.items in
    let n = g.K.Key.number c.args.key.now in
    let f = ap (λ i. nth (table g.K.Key.number xs) i None (of_key n)) c.place.ensures.value
    ∙ found_at n c.args.tag (table g.K.Key.number xs) c.args.self.now.ordered in
    elim c.in_default.branch [
      | in_default-via-in-Some+else-number w ↦
          let e : eqb (g.K.Key.number w.in-Some.h.now.key) n ≡ false = search rules in
          sym (cond-false _ _ None e)
          ∙ read_some g.K.Key.number xs c.deref.result.now c.place.result None (of_key n) w.in-Some.h c.deref.ensures.value w.in-Some.ensures.lookup ∙ f
      | in_default-via-in_default w ↦
          read_none g.K.Key.number xs c.deref.result.now c.place.result None (of_key n) c.deref.ensures.value
          (subst (IsItemAt c.deref.result.now c.place.result) w.in_default.is c.get.ensures.lookup) ∙ f
    ]
