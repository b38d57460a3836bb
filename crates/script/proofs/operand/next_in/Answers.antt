use Rattle.text.proofs.Readers.{word_given}
use Rattle.script.proofs.operand.next_in.Goals as goal

pub returns-in_err-next-clause-rest : goal.returns-in_err-next-clause-rest
returns-in_err-next-clause-rest g c = (word_given _ _ _ c.next.ensures.steps).1

pub returns-clause-rest : goal.returns-clause-rest
returns-clause-rest g c = (word_given _ _ _ c.next.ensures.steps).1
