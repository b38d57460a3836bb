use Rattle.std.proofs.Common.{◌^◌, ◌<◌, vec_items, ap, ◌∙◌, arith}
use Rattle.blocks.specs.Cells.{entries_of}
use Rattle.blocks.specs.Effects.{puts}
use Rattle.blocks.proofs.entries.BlockStoreColdStore.put.Goals as goal

pub returns : goal.returns
returns g c =
    let xs = vec_items c.args.self.now.bytes in
    let limit = c.args.self.now.limit in
    let n = c.args.self.now.bytes.ok.0 in
    let l = c.args.self.now.long in
    let t : c.args.tag < 2 ^ 32 = omega arith in
    let u = puts g.R.Packed.unpacked limit xs (g.K.Key.number c.args.key) c.args.tag (g.R.Packed.packed c.args.row) c.args.row
    (omega arith) (g.met.K.Key.fits c.args.key) t (g.met.R.Packed.long c.args.row) (g.met.R.Packed.back c.args.row) c.args.self.now.ordered in
    record {
      answer = c.put_entry.ensures.answer ∙ u.0;
      after = ap (λ k. entries_of g.R.Packed.unpacked k (vec_items c.put_entry.new.self.bytes)) c.put_entry.ensures.limit
          ∙ ap (entries_of g.R.Packed.unpacked limit) c.put_entry.ensures.bytes ∙ u.1;
      limit = c.put_entry.ensures.limit;
    }
