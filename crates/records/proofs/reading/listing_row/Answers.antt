use Rattle.std.proofs.Common.{is_some, sym, ap, ◌∙◌}
use Rattle.text.specs.Parts.{left}
use Rattle.text.proofs.Readers.{gives_first}
use Rattle.records.specs.Reading.{row_parts}
use Rattle.records.proofs.Rows.{row_whole, mapped_some}
use Rattle.records.proofs.reading.listing_row.Goals as goal

pub returns : goal.returns
returns c =
    row_whole (left c.of-parts.result) _ _ _ _ c.in_ok-price.ensures.value c.number.ensures.rest
    c.in_ok-seats.ensures.value c.number-2.ensures.rest
    c.in_ok-seller.ensures.value c.number-3.ensures.rest
    (c.if-is_some.ensures ∙ sym (mapped_some _ c.next.result) ∙ ap is_some (gives_first (λ x. x.now) left _ _ _ c.next.ensures.steps))
    ∙ ap row_parts c.of-parts.ensures.all
