use Rattle.std.proofs.Common.{◌≡◌, [], ◌∷◌, rules, tests, sym, ◌∙◌}
use Rattle.std.proofs.lemmas.Iterator.{YieldsList-from_slice}
use Rattle.std.proofs.lemmas.Iterator.Consumers.{YieldsList-from_copied}
use Rattle.std.proofs.lemmas.Iterator.Search.{find_from_yields_List}
use Rattle.std.specs.Option.{option_map}
use Rattle.text.specs.Words.{same}
use Rattle.script.specs.Calls.{name_of, kind_named}
use Rattle.script.specs.declared.request.Kind.TheVariants as kind
use Rattle.script.proofs.Taken.{itself}
use Rattle.script.proofs.request.Kind.named.Goals as goal

pub returns : goal.returns
returns c =
    let all = kind.Begin ∷ (kind.Read ∷ (kind.Put ∷ (kind.Drop ∷ (kind.Commit ∷ (kind.Abandon
    ∷ (kind.Choose ∷ (kind.Copy ∷ (kind.Settle ∷ (kind.GiveUp ∷ (kind.Sweep ∷ (kind.Collect ∷ []))))))))))) in
    let e : option_map (λ k. k) c.find.result ≡ kind_named c.args.name.now =
    find_from_yields_List (λ k. same c.args.name.now (name_of k)) _ _ _ c.find.ensures.ran
    (YieldsList-from_copied (YieldsList-from_slice all cc)) (λ x b q k. search (rules, tests)) in
    sym (itself c.find.result) ∙ e
