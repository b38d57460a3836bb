use Rattle.std.proofs.Common.{rules, tests, ◌≡◌, ◌≢◌, ◌∙◌}
use Rattle.std.proofs.lemmas.Iterator.{IsFirst-from_position, YieldsList-from_slice}
use Rattle.text.proofs.Cuts.{count_first}
use Rattle.text.proofs.parts.count_to.Goals as goal

pub returns-clause-value : goal.returns-clause-value
returns-clause-value c = c.unwrap_or.ensures ∙ count_first c.args.at c.args.text.now c.position.result
    (IsFirst-from_position _ _ _ (λ b. b ≡ c.args.at) (λ b. b ≢ c.args.at) c.position.ensures.ran
    (YieldsList-from_slice c.args.text.now cc) (λ x q k. search (rules, tests)) (λ x q k. search (rules, tests)))
