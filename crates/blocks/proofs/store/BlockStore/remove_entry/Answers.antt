use Rattle.std.proofs.Common.{vec_items, ap, ◌∙◌, arith}
use Rattle.cold.specs.Lists.{all}
use Rattle.cold.specs.Cold.{in_order}
use Rattle.blocks.specs.Blocks.{cut, is_tidy}
use Rattle.blocks.specs.Cells.{entries_of}
use Rattle.blocks.proofs.Kept.{removed_seat, removed_tidy, removed_ordered}
use Rattle.blocks.proofs.store.BlockStore.remove_entry.Goals as goal

pub invariant_of-self : goal.invariant_of-self
invariant_of-self g c =
    let xs = vec_items c.args.self.now.bytes in
    let limit = c.args.self.now.limit in
    let n = c.number.result in
    let l = c.args.self.now.bytes.ok.0 in
    let m = c.args.self.now.long in
    let b = removed_seat limit n c.args.tag c.in-Some.place xs c.in-Some.ensures in
    record {
      long = m;
      small = c.args.self.now.small;
      tidy = ap (λ ys. all is_tidy (cut 32 limit ys)) b ∙ removed_tidy limit n c.args.tag xs (omega arith) c.args.self.now.tidy;
      ordered =
          ap (λ ys. in_order (entries_of g.R.Packed.unpacked limit ys)) b
          ∙ removed_ordered limit n c.args.tag xs (omega arith) g.R.Packed.unpacked c.args.self.now.ordered;
    }
