use Rattle.std.proofs.Common.{◌≡◌, ℕ, List, ◌∷◌, ◌++◌, length, sym, ◌∙◌, arith, rules}
use Rattle.keys.specs.Bytes.{low_bytes}
use Rattle.keys.specs.Low.{tile3, low_at, laid_on}
use Rattle.keys.proofs.packing.CaseRowPacked.pack.Goals as goal

placed : {t u : ℕ × ℕ} {f : ℕ} {b z : List ℕ}
    → t ≡ u → f ≡ t.1 → b ≡ low_bytes 4 f → z ≡ low_bytes 11 0
    → t.0 ∷ (b ++ z) ≡ u.0 ∷ (low_bytes 4 u.1 ++ low_bytes 11 0)
placed e f g h = cc

pub returns-clause-after : goal.returns-clause-after
returns-clause-after c =
    let l : length c.args.out.now ≡ 16 = omega arith in
    let l1 : length c.write_low.new.out ≡ 4 = search rules in
    let l2 : length c.write_low-2.new.out ≡ 11 = search rules in
    let e1 = low_at _ _ l1 c.write_low.ensures in
    let e2 = low_at _ _ l2 c.write_low-2.ensures in
    tile3 c.args.out.now c.write_low.new.out c.write_low-2.new.out _ l l1 l2 ∙ placed c.case_parts-kind.ensures c.from.ensures e1 e2
    ∙ sym (laid_on _ c.args.out.now l)
