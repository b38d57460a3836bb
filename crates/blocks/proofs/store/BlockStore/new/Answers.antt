use Rattle.std.proofs.Common.{◌≡◌, ◌*◌, replicate, refl, ap, ◌∙◌, arith, rules}
use Rattle.cold.specs.Lists.{all}
use Rattle.cold.proofs.Meaning.{order_none}
use Rattle.blocks.specs.Blocks.{cut, is_tidy}
use Rattle.blocks.specs.Cells.{entries_of}
use Rattle.blocks.specs.Effects.{new_empty}
use Rattle.blocks.proofs.Tidy.{new_tidy}
use Rattle.blocks.proofs.store.BlockStore.new.Goals as goal

pub invariant_of-result : goal.invariant_of-result
invariant_of-result g c =
    let k = c.in_ok-bytes.ensures in
    let m : c.args.limit * 32 ≡ 32 * c.args.limit = omega arith in
    let z = k.items_if_clones_equal (λ y e. e) ∙ ap (λ n. replicate n 0) m in
    record {
      long = search rules;
      small = search rules;
      tidy = ap (λ xs. all is_tidy (cut 32 c.args.limit xs)) z ∙ new_tidy c.args.limit;
      ordered = order_none _ (ap (entries_of g.R.Packed.unpacked c.args.limit) z ∙ new_empty g.R.Packed.unpacked c.args.limit);
    }

pub returns-clause-made : goal.returns-clause-made
returns-clause-made g c =
    let k = c.in_ok-bytes.ensures in
    let m : c.args.limit * 32 ≡ 32 * c.args.limit = omega arith in
    let z = k.items_if_clones_equal (λ y e. e) ∙ ap (λ n. replicate n 0) m in
    (ap (entries_of g.R.Packed.unpacked c.args.limit) z ∙ new_empty g.R.Packed.unpacked c.args.limit, refl)
