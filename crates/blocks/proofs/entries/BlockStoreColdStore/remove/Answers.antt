use Rattle.std.proofs.Common.{vec_items, ap, ◌∙◌, arith}
use Rattle.blocks.specs.Cells.{entries_of}
use Rattle.blocks.specs.Effects.{removes}
use Rattle.blocks.proofs.entries.BlockStoreColdStore.remove.Goals as goal

pub returns : goal.returns
returns g c =
    let xs = vec_items c.args.self.now.bytes in
    let limit = c.args.self.now.limit in
    let n = c.args.self.now.bytes.ok.0 in
    let l = c.args.self.now.long in
    let u = removes g.R.Packed.unpacked limit xs (g.K.Key.number c.args.key.now) c.args.tag (omega arith) c.args.self.now.ordered in
    record {
      answer = c.remove_entry.ensures.answer ∙ u.0;
      after = ap (λ k. entries_of g.R.Packed.unpacked k (vec_items c.remove_entry.new.self.bytes)) c.remove_entry.ensures.limit
          ∙ ap (entries_of g.R.Packed.unpacked limit) c.remove_entry.ensures.bytes ∙ u.1;
      limit = c.remove_entry.ensures.limit;
    }
