-- The text of a reply.
use Rattle.std.specs.Prelude.{ℕ, List, [], ◌++◌, Ok, Err, Result, codes}
use Rattle.keys.specs.declared.rows.ListingRow.{ListingRow}
use Rattle.rules.specs.Refusals.{number_of}
use Rattle.rules.specs.Outcomes.{Told}
use Rattle.rules.specs.declared.answers.Answer.TheVariants as answer
use Rattle.rules.specs.declared.answers.Swept.{Swept}
use Rattle.rules.specs.declared.answers.Swept.TheVariants.{Gone, Emptied, NoneDue}
use Rattle.text.specs.Numbers.{decimal_text}
use Rattle.records.specs.Writing.{bit_text, found_text}
use Rattle.script.specs.Calls.{name_of}
use Rattle.script.specs.declared.reply.Answered.{Answered}
use Rattle.script.specs.declared.reply.BadRequest.{BadRequest}
use Rattle.script.specs.declared.reply.BadRequest.TheVariants.{Line, Move}
use Rattle.script.specs.declared.request.Kind.{Kind}

abbrev pub did_text : Swept → List ℕ
did_text Gone = codes "gone"
did_text Emptied = codes "emptied"
did_text NoneDue = codes "none"

-- ok=CALL, and what follows it
abbrev pub ok_text : Kind → List ℕ → List ℕ
ok_text k more = codes "ok=" ++ (name_of k ++ more)

abbrev pub answer_text : Kind → Told ListingRow → List ℕ
answer_text k (Ok answer.Done) = ok_text k []
answer_text k (Ok (answer.Row found)) = ok_text k (codes " v=" ++ found_text found)
answer_text k (Ok (answer.Was there)) = ok_text k (codes " was=" ++ bit_text there)
answer_text k (Ok (answer.At stamp)) = ok_text k (codes " at=" ++ decimal_text stamp)
answer_text k (Ok (answer.Tag tag)) = ok_text k (codes " tag=" ++ decimal_text tag)
answer_text k (Ok (answer.Swept swept)) = ok_text k (codes " did=" ++ did_text swept)
answer_text k (Err refusal) = codes "no=" ++ decimal_text (number_of refusal)

abbrev pub bad_text : BadRequest → List ℕ
bad_text Line = codes "bad=line"
bad_text Move = codes "bad=move"

-- what a line is answered
abbrev pub Reply : Type 0
Reply = Result Answered BadRequest

abbrev pub reply_text : Reply → List ℕ
reply_text (Ok a) = answer_text a.kind a.told
reply_text (Err b) = bad_text b
