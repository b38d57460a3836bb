use Rattle.std.proofs.Common.{◌+◌, ◌-◌, ◌*◌, ◌^◌, ◌<◌, is_some, get_or, vec_items, vec_len, sym, refl, ap, ◌∙◌, arith}
use Rattle.std.proofs.lemmas.Bool.{cond-true, cond-false}
use Rattle.cold.specs.Lists.{all}
use Rattle.cold.specs.Cold.{in_order}
use Rattle.blocks.specs.Blocks.{cut, is_tidy, bytes_answer, put_bytes}
use Rattle.blocks.specs.Cells.{entries_of}
use Rattle.blocks.specs.Effects.{put_other}
use Rattle.blocks.proofs.FirstPlace.{seat_none, free_some, free_none}
use Rattle.blocks.proofs.Kept.{put_free, put_tidy, put_ordered}
use Rattle.blocks.proofs.store.BlockStore.put_entry.Goals as goal

pub returns-in_default-clause-answer : goal.returns-in_default-clause-answer
returns-in_default-clause-answer g c =
    let xs = vec_items c.args.self.now.bytes in
    let limit = c.args.self.now.limit in
    let n = c.number-number.result in
    let d = seat_none limit xs n c.args.tag (ap is_some (sym c.seat.ensures) ∙ sym c.if-is_some.ensures) in
    let f = free_none limit xs c.in_default.ensures in
    sym (cond-false _ _ _ d ∙ cond-false _ _ _ f) ∙ ap (λ m. bytes_answer limit xs m c.args.tag) c.number-number.ensures

pub invariant_of-self : goal.invariant_of-self
invariant_of-self g c =
    let xs = vec_items c.args.self.now.bytes in
    let limit = c.args.self.now.limit in
    let n = g.K.Key.number c.args.key.now in
    let row = g.R.Packed.packed c.args.row.now in
    let l = c.args.self.now.bytes.ok.0 in
    let m = c.args.self.now.long in
    let t : c.args.tag < 2 ^ 32 = omega arith in
    let b = put_free limit c.number-number.result c.args.tag c.in-Some.place (vec_len c.args.self.now.bytes) (c.in-Some.place * 32)
    (c.in-Some.place * 32 + 32 - c.in-Some.place * 32) xs c.deref_mut.result.now c.fill.new.block row
    c.deref_mut.ensures.value l refl (omega arith) (omega arith) c.fill.ensures (g.met.R.Packed.long c.args.row.now)
    (ap is_some (sym c.seat.ensures) ∙ sym c.if-is_some.ensures) c.in-Some.ensures
    ∙ ap (λ k. put_bytes limit xs k c.args.tag row) c.number-number.ensures in
    record {
      long = m;
      small = c.args.self.now.small;
      tidy = ap (λ ys. all is_tidy (cut 32 limit ys)) b ∙ put_tidy limit n c.args.tag xs (omega arith) row (g.met.R.Packed.long c.args.row.now) c.args.self.now.tidy;
      ordered =
          ap (λ ys. in_order (entries_of g.R.Packed.unpacked limit ys)) b
          ∙ put_ordered limit n c.args.tag xs (omega arith) g.R.Packed.unpacked c.args.self.now.ordered row c.args.row.now
          (g.met.K.Key.fits c.args.key.now) t (g.met.R.Packed.long c.args.row.now) (g.met.R.Packed.back c.args.row.now);
    }

pub returns-clause-answer : goal.returns-clause-answer
returns-clause-answer g c =
    let xs = vec_items c.args.self.now.bytes in
    let limit = c.args.self.now.limit in
    let n = c.number-number.result in
    let d = seat_none limit xs n c.args.tag (ap is_some (sym c.seat.ensures) ∙ sym c.if-is_some.ensures) in
    let f = free_some limit xs c.in-Some.place c.in-Some.ensures in
    sym (cond-false _ _ _ d ∙ cond-true _ _ _ f.0) ∙ ap (λ m. bytes_answer limit xs m c.args.tag) c.number-number.ensures

pub returns-clause-bytes : goal.returns-clause-bytes
returns-clause-bytes g c =
    let xs = vec_items c.args.self.now.bytes in
    let limit = c.args.self.now.limit in
    let row = g.R.Packed.packed c.args.row.now in
    let l = c.args.self.now.bytes.ok.0 in
    let m = c.args.self.now.long in
    put_free limit c.number-number.result c.args.tag c.in-Some.place (vec_len c.args.self.now.bytes) (c.in-Some.place * 32)
    (c.in-Some.place * 32 + 32 - c.in-Some.place * 32) xs c.deref_mut.result.now c.fill.new.block row
    c.deref_mut.ensures.value l refl (omega arith) (omega arith) c.fill.ensures (g.met.R.Packed.long c.args.row.now)
    (ap is_some (sym c.seat.ensures) ∙ sym c.if-is_some.ensures) c.in-Some.ensures
    ∙ ap (λ k. put_bytes limit xs k c.args.tag row) c.number-number.ensures

pub returns-clause-others : goal.returns-clause-others
returns-clause-others g c = λ k d.
    let xs = vec_items c.args.self.now.bytes in
    let l = c.args.self.now.bytes.ok.0 in
    let m = c.args.self.now.long in
    ap (λ ys. get_or ys k 0) (returns-clause-bytes g c)
    ∙ put_other c.args.self.now.limit xs (g.K.Key.number c.args.key.now) c.args.tag (g.R.Packed.packed c.args.row.now) k (omega arith)
    (g.met.R.Packed.long c.args.row.now) d
