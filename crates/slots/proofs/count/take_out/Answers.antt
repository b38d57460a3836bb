use Rattle.std.proofs.Common.{◌-◌, ◌≤◌, length, take, sym, ap, ◌∙◌, arith}
use Rattle.std.specs.List.{remove}
use Rattle.std.proofs.lemmas.List.{length-take}
use Rattle.slots.proofs.Slots.{take_min}
use Rattle.slots.proofs.Loops.{closed_up, removed_past}
use Rattle.slots.proofs.count.take_out.Goals as goal

pub returns-then-at-end-clause-list : goal.returns-then-at-end-clause-list
returns-then-at-end-clause-list g c =
    let xs = c.args.slots.now in
    let short : length (take c.args.used xs) ≤ c.args.at = simp length-take (omega arith) in
    ap (λ n. take n xs) c.min-end.ensures ∙ take_min c.args.used xs ∙ sym (removed_past (take c.args.used xs) c.args.at short)

pub returns-clause-list : goal.returns-clause-list
returns-clause-list g c =
    let xs = c.args.slots.now in
    let end = c.min-end.result in
    ap (take (end - 1)) c.copy_within.ensures.after ∙ closed_up xs c.args.at end c.if-at-end.false (omega arith)
    ∙ ap (λ ys. remove ys c.args.at) (ap (λ n. take n xs) c.min-end.ensures ∙ take_min c.args.used xs)
