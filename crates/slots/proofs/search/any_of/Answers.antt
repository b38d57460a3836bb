use Rattle.std.proofs.Common.{take, is_some, ap, ◌∙◌}
use Rattle.slots.proofs.Hits.{hit_any}
use Rattle.slots.proofs.search.any_of.Goals as goal

pub returns : goal.returns
returns g c p d =
    c.is_some.ensures ∙ ap is_some (c.find_first.ensures p d) ∙ hit_any p (take c.args.used c.args.slots.now)
