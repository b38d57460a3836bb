use Rattle.std.proofs.Common.{sym, ap, ◌∙◌}
use Rattle.std.specs.Option.{option_map}
use Rattle.text.specs.Words.{words_left, word_of, meant}
use Rattle.text.specs.Parts.{first}
use Rattle.text.proofs.Readers.{word_given}
use Rattle.records.specs.Reading.{record_words}
use Rattle.records.proofs.Rows.{record_whole, same_some}
use Rattle.records.proofs.reading.record.Goals as goal

pub returns : goal.returns
returns c =
    let one = word_given _ _ _ c.next.ensures.steps in
    let two = word_given _ _ _ c.next-2.ensures.steps in
    let three = word_given _ _ _ c.next-3.ensures.steps in
    record_whole (words_left c.of-words.result) (words_left c.next.new.self) (words_left c.next-2.new.self)
    (meant c.in_ok-next.field-0) (meant c.in_ok-next-2.field-0) _
    (sym (ap (option_map meant) c.in_ok-next.was) ∙ one.0) one.1 (sym (ap (option_map meant) c.in_ok-next-2.was) ∙ two.0) two.1
    (c.if-is_some.ensures ∙ same_some meant word_of c.next-3.result (first (words_left c.next-2.new.self)) three.0)
    c.in_ok-id.ensures.value c.in_ok-row.ensures
    ∙ ap record_words c.of-words.ensures.all
