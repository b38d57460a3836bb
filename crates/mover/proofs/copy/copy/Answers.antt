use Rattle.std.proofs.Common.{rules, ◌≡◌, take, sym, Some, ◌∙◌}
use Rattle.slots.specs.Lists.{hit, first}
use Rattle.slots.proofs.Hits.{hit_none, hit_first}
use Rattle.slots.proofs.Used.{found_changed}
use Rattle.rules.specs.declared.tables.MoveMark.TheVariants.{Copied}
use Rattle.rules.specs.Moving.{row_chosen, with_mark}
use Rattle.mover.proofs.Puts.{put_refused}
use Rattle.mover.proofs.copy.copy.Given as given
use Rattle.mover.proofs.copy.copy.Goals as goal
use Rattle.mover.proofs.copy.copy.Goals.{After-put_below}

pub returns-in_default : goal.returns-in_default
returns-in_default g c =
    let e = c.if-not-is_lent.ensures in
    let none = c.in_default.ensures (row_chosen c.args.moving.tag) (λ x r k. search rules) in
    let f = hit_none _ _ (sym none) in
    record { answer = rw (← e, f); after = rw (← e, f); grown = rw (← e, f); hand = search rules }

-- the row that is found
row_hit : (g : given.Over) (c : After-put_below g)
    → hit (row_chosen c.args.moving.tag) (take c.args.sheet.now.hot.used c.args.hot.now) ≡ Some c.in-Some.hit
row_hit g c = sym (c.in-Some.ensures (row_chosen c.args.moving.tag) (λ x r k. search rules))

row_is : (g : given.Over) (c : After-put_below g)
    → first (row_chosen c.args.moving.tag) (take c.args.sheet.now.hot.used c.args.hot.now) ≡ Some c.in-Some.hit.it
row_is g c = hit_first _ _ c.in-Some.hit (row_hit g c)

pub returns-in-Err : goal.returns-in-Err
returns-in-Err g c =
    let e = c.if-not-is_lent.ensures in
    let f = row_is g (goal.at.returns-in-Err g c).After-put_below in
    let put = sym c.in-Err.ensures.answer in
    let h = c.in-Some.hit.it in
    let kept = c.put_below.ensures.after
    ∙ put_refused (g.C.ColdStore.limit c.args.cold.now) (g.C.ColdStore.entries c.args.cold.now) (g.K.Key.number h.key) c.args.moving.tag
    h.row c.in-Err.why put in
    record {
      answer = rw (← e, f, put);
      after = rw (← e, f, put, kept, c.put_below.ensures.limit);
      grown = rw (← e, f) c.put_below.ensures.grown;
      hand = search rules;
    }

pub returns : goal.returns
returns g c =
    let tag = c.args.moving.tag in
    let e = c.if-not-is_lent.ensures in
    let q = row_hit g (goal.at.returns g c).After-put_below in
    let f = row_is g (goal.at.returns g c).After-put_below in
    let put = sym (c.in_default-put_below.ensures.answer) in
    let edit = c.edit_at.ensures (with_mark (Copied tag)) (λ x y k. search rules) in
    let rows = found_changed _ (with_mark (Copied tag)) c.args.sheet.now.hot.used c.args.hot.now c.in-Some.hit _ q edit in
    record {
      answer = rw (← e, f, put);
      after = rw (← e, f, put, rows, c.put_below.ensures.after, c.put_below.ensures.limit);
      grown = rw (← e, f) c.put_below.ensures.grown;
      hand = search rules;
    }
