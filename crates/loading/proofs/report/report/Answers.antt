use Rattle.std.proofs.Common.{ℕ, Bool, length, None, sym, ap, ◌∙◌, arith}
use Rattle.filter.specs.Band.{lows, highs, in_band}
use Rattle.filter.specs.Bloom.{in_bloom}
use Rattle.text.specs.Parts.{lines}
use Rattle.records.specs.Entries.{entries}
use Rattle.records.proofs.Rising.{count_fits}
use Rattle.loading.proofs.Whole.{length_goods, report_whole}
use Rattle.loading.proofs.report.report.Goals as goal

pub load_both-requires : goal.load_both-requires
load_both-requires c = omega (
  arith,
  ap length (c.deref.ensures.value ∙ c.in_ok-records.ensures.0),
  length_goods (entries None (lines c.args.input.now)),
  count_fits c.args.input.now,
  c.requires,
)

pub returns : goal.returns
returns c =
    let bloom : ℕ → Bool = λ h. in_bloom c.load_both.new.bloom.words h in
    let band : ℕ → Bool = λ h. in_band (lows c.load_both.new.band.ends) (highs c.load_both.new.band.ends) h in
    let told = c.in_ok-load_both.ensures in
    let text = report_whole bloom band _ _ _ _ (entries None (lines c.args.input.now)) c.deref.result.now _ _ _ _ _
    c.in-Ok.ensures.made.1 c.in-Ok.ensures.made.0 c.in-Ok-new.ensures.made.1 c.in-Ok-new.ensures.made.0
    told.1 told.2 (c.deref.ensures.value ∙ c.in_ok-records.ensures.0)
    (c.len.ensures ∙ sym c.deref.ensures.len) c.new-out.ensures.items c.in_ok-records.ensures.1
    told.0 c.in_ok-push_summary.ensures in
    (bloom, (band, text))
