-- Stores and outcomes, part by part.
use Rattle.std.proofs.Common.{◌≡◌, ℕ, ◌≤◌, min, ltb, List, IsErrAnd, Err, Result, ap, ◌∙◌, arith}
use Rattle.std.proofs.lemmas.Bool.{cond_both, ltb-true}
use Rattle.slots.specs.Lists.{count_with, count_without}
use Rattle.std.proofs.lemmas.Result.{err_from_is_err_and}
use Rattle.rules.specs.declared.answers.Refusal.{Refusal}
use Rattle.rules.specs.declared.tables.HotRow.{HotRow}
use Rattle.rules.specs.declared.tables.Notice.{Notice}
use Rattle.rules.specs.declared.tables.Line.{Line}
use Rattle.rules.specs.Stores.{Store, with_tables}
use Rattle.rules.specs.Outcomes.{Outcome, Told}

module _ {K R : Type 0} where
  abbrev pub answer_of : Outcome K R → Told R
  answer_of o = o.answer

  abbrev pub after_of : Outcome K R → Store K R
  after_of o = o.after

  pub same_tables : (σ : Store K R) {h h' : List (HotRow K R)} {m m' : List (Notice K)} {l l' : List (Line K)} → h ≡ h' → m ≡ m' → l ≡ l'
      → with_tables σ h m l ≡ with_tables σ h' m' l'
  same_tables σ {h} {h'} {m} {m'} {l} {l'} e f g =
      ap (λ z. with_tables σ z m l) e ∙ ap (λ z. with_tables σ h' z l) f ∙ ap (with_tables σ h' m') g

-- what the exit of a `?` returns
pub left_by : {T : Type 0} (r : Result T Refusal) (e : Refusal) → IsErrAnd r (λ y. y ≡ e) → r ≡ Err e
left_by r e h = let p = err_from_is_err_and r h in p.1 ∙ ap Err p.2

-- a count within its room stays so
pub with_count : (room used : ℕ) → used ≤ room → count_with room used ≤ room
with_count room used h = cond_both (ltb used room) _ _ (λ n. n ≤ room) (λ e. omega (arith, ltb-true used room e)) (λ e. h)

pub without_count : (room used at : ℕ) → count_without room used at ≤ used
without_count room used at = cond_both (ltb at (min used room)) _ _ (λ n. n ≤ used) (λ e. omega arith) (λ e. omega arith)
