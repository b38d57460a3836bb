use Rattle.std.proofs.Common.{rules, ◌≡◌, ap, ◌∙◌}
use Rattle.std.specs.Option.{option_map}
use Rattle.text.specs.Parts.{unread, left, split}
use Rattle.text.proofs.Cuts.{split_none, cut_next}
use Rattle.text.proofs.parts.PartsIterator.next.Goals as goal

pub returns-in-Some : goal.returns-in-Some
returns-in-Some c =
    let w : left c.args.self.now ≡ split c.args.self.now.at c.in_ok-text.text.now =
    ap (λ r. unread c.args.self.now.at (option_map (λ x. x.now) r)) c.in_ok-text.was in
    let e = w ∙ cut_next c.args.self.now.at _ _ _ _ c.in-Some.ensures in
    record { steps = e; goes = search rules }

pub returns : goal.returns
returns c =
    let w : left c.args.self.now ≡ split c.args.self.now.at c.in_ok-text.text.now =
    ap (λ r. unread c.args.self.now.at (option_map (λ x. x.now) r)) c.in_ok-text.was in
    let e = w ∙ split_none c.args.self.now.at _ c.in_default.ensures in
    record { steps = e; goes = search rules }
