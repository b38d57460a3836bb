use Rattle.std.proofs.Common.{◌≡◌, ◌/◌, length, ◌∙◌, ap, arith, vec_items}
use Rattle.std.specs.Simd.{first_chunks}
use Rattle.blocks.proofs.FirstPlace.{cut_chunks}
use Rattle.blocks.proofs.store.BlockStore.blocks.Goals as goal

pub returns : goal.returns
returns g c =
    let xs = vec_items c.args.self.now.bytes in
    let n = c.args.self.now.bytes.ok.0 in
    let m : length c.deref.result.now / 32 ≡ c.args.self.now.limit = omega (arith, c.args.self.now.long, c.deref.ensures.len) in
    c.as_chunks.ensures.front ∙ ap (λ k. first_chunks 32 k c.deref.result.now) m ∙ ap (first_chunks 32 c.args.self.now.limit) c.deref.ensures.value
    ∙ cut_chunks 32 c.args.self.now.limit xs
