use Rattle.std.proofs.Common.{◌≡◌, ℕ, List, ap, ◌∙◌}
use Rattle.filter.specs.Bloom.{with_bit, in_bloom, with_number, places_of}
use Rattle.filter.specs.declared.bloom.ThreePlaces.{ThreePlaces}
use Rattle.filter.proofs.Marks.{bloom_with}
use Rattle.filter.proofs.bloom.Bloom.mark.Goals as goal

-- one bit after another
in_turn : {x y z : List ℕ} {p : ThreePlaces} (w : List ℕ) (n : ℕ) → p ≡ places_of n → x ≡ with_bit w p.first → y ≡ with_bit x p.second
    → z ≡ with_bit y p.third
    → z ≡ with_number w n
in_turn w n e f g h = cc

pub returns-clause-admitted : goal.returns-clause-admitted
returns-clause-admitted c = λ h.
    let e = in_turn c.args.self.now.words c.args.number c.places-p.ensures c.set_bit.ensures.words c.set_bit-2.ensures.words c.set_bit-3.ensures.words in
    ap (λ w. in_bloom w h) e ∙ bloom_with c.args.self.now.words c.args.number c.set_bit.ensures.long h
