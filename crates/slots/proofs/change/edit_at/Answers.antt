use Rattle.std.proofs.Common.{set, sym, ap, ◌∙◌}
use Rattle.slots.proofs.Slots.{set_changed, changed_past}
use Rattle.slots.proofs.change.edit_at.Goals as goal

pub returns-then-at-slots : goal.returns-then-at-slots
returns-then-at-slots g c e d =
    ap (set c.args.slots.now c.args.at) (d _ _ c.change.ensures) ∙ set_changed e c.args.at c.args.slots.now _

pub returns-else-at-slots : goal.returns-else-at-slots
returns-else-at-slots g c e d = sym (changed_past e c.args.at c.args.slots.now c.if-at-slots.false)
