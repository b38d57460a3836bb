use Rattle.std.proofs.Common.{◌≡◌, ℕ, List, ◌++◌, length, ◌∙◌, rules}
use Rattle.keys.specs.Bytes.{low_bytes}
use Rattle.keys.specs.Low.{low_at}
use Rattle.blocks.specs.Lent.{tile32, laid_by}
use Rattle.blocks.proofs.block.fill.Goals as goal

joined : {a b c d p : List ℕ} {t f : ℕ} (n : ℕ) → a ≡ low_bytes 8 n → b ≡ low_bytes 4 f → f ≡ t → c ≡ low_bytes 4 1 → d ≡ p
    → a ++ (b ++ (c ++ d)) ≡ low_bytes 8 n ++ (low_bytes 4 t ++ (low_bytes 4 1 ++ p))
joined n e f g h i = cc

pub returns : goal.returns
returns g c =
    let l1 : length c.write_low.new.out ≡ 8 = search rules in
    let l2 : length c.write_low-2.new.out ≡ 4 = search rules in
    let l3 : length c.write_low-3.new.out ≡ 4 = search rules in
    let l4 : length c.pack.new.out ≡ 16 = search rules in
    let e : c.pack.new.out ≡ g.R.Packed.packed c.args.row.now = search (rules, laid_by) in
    tile32 c.args.block.now c.write_low.new.out c.write_low-2.new.out c.write_low-3.new.out c.pack.new.out c.requires
    l1 l2 l3 l4
    ∙ joined c.args.number (low_at _ _ l1 c.write_low.ensures) (low_at _ _ l2 c.write_low-2.ensures) c.from.ensures
    (low_at _ _ l3 c.write_low-3.ensures) e
