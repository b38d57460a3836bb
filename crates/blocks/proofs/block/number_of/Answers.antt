use Rattle.std.proofs.Common.{◌≤◌, length, take, ap, ◌∙◌, arith}
use Rattle.std.proofs.lemmas.List.{take_all, length-take}
use Rattle.keys.specs.Bytes.{from_low}
use Rattle.blocks.specs.Blocks.{part}
use Rattle.blocks.proofs.block.number_of.Goals as goal

pub returns : goal.returns
unfolding part
returns c =
    let l : length (take 8 c.args.block.now) ≤ 8 = simp length-take (omega arith) in
    c.read_low.ensures.value ∙ ap from_low (take_all 8 (take 8 c.args.block.now) l)
