use Rattle.std.proofs.Common.{◌-◌, ◌^◌, false, [], get_or, rules}
use Rattle.std.specs.Fmt.{HasWritten, padded_integral, format_spec, digits}
use Rattle.std.proofs.Output.{has_written_append, has_written_of_eq}
use Rattle.records.proofs.Digits.{hex_more}
use Rattle.records.proofs.writing.HexDisplay.fmt.Goals as goal

pub loop-b-preserved : goal.loop-b-preserved
loop-b-preserved g c = λ p.
    let b = get_or c.args.self.now.0.now c.loop-b.b-index 0 in
    let w : HasWritten g.W.Write.write_str_gives c.loop-b.f
    (padded_integral (format_spec 32 0 4 2 (2 ^ 64 - 1)) false [] (digits 16 false b)) c.write.new.self = search rules in
    has_written_of_eq _ _ _ _ _ (hex_more c.args.self.now.0.now c.loop-b.b-index c.loop-b-test.true (search rules))
    (has_written_append _ _ _ _ _ _ (c.loop-b.invariant p) w)
