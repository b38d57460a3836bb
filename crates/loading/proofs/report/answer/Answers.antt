use Rattle.std.proofs.Common.{ℕ, Bool, false, ltb, length, sym, ◌∙◌, lt-ltb}
use Rattle.std.proofs.lemmas.Result.{IfOk-weaker}
use Rattle.std.proofs.lemmas.Bool.{cond-true}
use Rattle.loading.proofs.report.answer.Goals as goal

-- too long: whatever the filters would admit
pub returns-then-input-gt-LIMIT-clause-text : goal.returns-then-input-gt-LIMIT-clause-text
returns-then-input-gt-LIMIT-clause-text c =
    let none : ℕ → Bool = λ h. false in
    IfOk-weaker c.from_slice.result _ _
    (λ v h. (
      none,
      (
        none,
        h ∙ sym (cond-true (ltb 65536 (length c.args.input.now)) _ _
            (lt-ltb 65536 (length c.args.input.now) c.if-input-gt-LIMIT.true)),
      ),
    )) c.from_slice.ensures.items
