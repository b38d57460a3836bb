use Rattle.std.proofs.Common.{◌≡◌, length, sym, ◌∙◌, arith, rules}
use Rattle.keys.specs.Low.{tile4, low_at, laid_on}
use Rattle.keys.proofs.packing.ListingRowPacked.pack.Goals as goal

pub returns-clause-after : goal.returns-clause-after
returns-clause-after c =
    let l : length c.args.out.now ≡ 16 = omega arith in
    let l1 : length c.write_low.new.out ≡ 4 = search rules in
    let l2 : length c.write_low-2.new.out ≡ 4 = search rules in
    let l3 : length c.write_low-3.new.out ≡ 2 = search rules in
    let l4 : length c.write_low-4.new.out ≡ 6 = search rules in
    let e1 = low_at _ _ l1 c.write_low.ensures in
    let e2 = low_at _ _ l2 c.write_low-2.ensures in
    let e3 = low_at _ _ l3 c.write_low-3.ensures in
    let e4 = low_at _ _ l4 c.write_low-4.ensures in
    tile4 c.args.out.now c.write_low.new.out c.write_low-2.new.out c.write_low-3.new.out
    c.write_low-4.new.out l l1 l2 l3 l4
    ∙ (cc (c.from.ensures, c.from-2.ensures, c.from-3.ensures))
    ∙ sym (laid_on _ c.args.out.now l)
