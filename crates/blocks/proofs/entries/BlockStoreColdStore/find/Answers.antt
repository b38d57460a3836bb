use Rattle.std.proofs.Common.{◌≡◌, Some, vec_items, Option, refl, ap, ◌∙◌}
use Rattle.cold.specs.Cold.{found}
use Rattle.cold.specs.declared.store.Found.{Found}
use Rattle.blocks.specs.Blocks.{cut, part}
use Rattle.blocks.specs.Cells.{entries_of}
use Rattle.blocks.proofs.Own.{found_block, no_block}
use Rattle.blocks.proofs.entries.BlockStoreColdStore.find.Goals as goal

pub returns-in_err-block : goal.returns-in_err-block
returns-in_err-block g c =
    let limit = c.args.self.now.limit in
    let xs = vec_items c.args.self.now.bytes in
    c.from_residual.ensures
    ∙ no_block g.R.Packed.unpacked c.number.result c.args.tag (cut 32 limit xs) (c.in_err-block.ensures.none refl)
    ∙ ap (λ n. found (entries_of g.R.Packed.unpacked limit xs) n c.args.tag) c.number.ensures

same_found : {R : Type 0} {s t : _} {q r : R} → s ≡ t → q ≡ r
    → ◌≡◌ {A = Option (Found R)} (Some (record { tag = s; row = q })) (Some (record { tag = t; row = r }))
same_found e f = cc

pub returns : goal.returns
unfolding part
returns g c =
    let limit = c.args.self.now.limit in
    let xs = vec_items c.args.self.now.bytes in
    let e = c.in_ok-block.ensures in
    same_found c.tag_of.ensures c.unpack.ensures
    ∙ found_block g.R.Packed.unpacked c.number.result c.args.tag (cut 32 limit xs) c.in_ok-block.block.now c.args.self.now.ordered e.one e.own e.least
    ∙ ap (λ n. found (entries_of g.R.Packed.unpacked limit xs) n c.args.tag) c.number.ensures
