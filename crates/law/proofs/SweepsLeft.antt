-- How many sweeps a memo needs: one or two a notice. A sweep of a store at rest takes one off, and leaves it at rest.
use Rattle.std.proofs.Common.{◌≡◌, ℕ, ◌+◌, ◌-◌, ◌*◌, ◌≤◌, true, false, List, [], ◌∷◌, ◌++◌, length, Some, None, Option, refl, ap, ◌∙◌, arith}
use Rattle.std.specs.List.{AllByRecursion as All}
use Rattle.std.proofs.lemmas.Bool.{both_ways, or_parts}
use Rattle.rules.specs.declared.tables.Kind.{Kind}
use Rattle.rules.specs.declared.tables.Kind.TheVariants.{N, B, E, BE, X}
use Rattle.rules.specs.declared.tables.Notice.{Notice}
use Rattle.rules.specs.declared.notices.NoticeEvent.TheVariants.{Empty}
use Rattle.rules.specs.Moving.{due, with_kind, sweep_kind, sweep_notice, sweep_rule}
use Rattle.rules.specs.Notices.{becomes}
use Rattle.rules.specs.Outcomes.{Outcome}
use Rattle.rules.specs.Stores.{Store}
use Rattle.slots.specs.Lists.{any, first, at_first, one}
use Rattle.slots.proofs.Folds.{Spot, spot, first_none}
use Rattle.versions.specs.History.{History}
use Rattle.cells.proofs.Cells.{Whole}
use Rattle.law.proofs.Resting.{Resting, all_due}
use Rattle.law.proofs.Steps.{lent_own}

-- the sweeps until a notice of this kind is taken out: two where its entry has to be removed first
abbrev kind_sweeps : Kind → ℕ
kind_sweeps N = 2
kind_sweeps B = 1
kind_sweeps E = 2
kind_sweeps BE = 2
kind_sweeps X = 1

-- what is left to do after one sweep
abbrev rest_sweeps : Option Kind → ℕ
rest_sweeps None = 0
rest_sweeps (Some kind) = kind_sweeps kind

one_less : (kind : Kind) → kind_sweeps kind ≡ 1 + rest_sweeps (becomes kind Empty)
one_less N = refl
one_less B = refl
one_less E = refl
one_less BE = refl
one_less X = refl

kind_few : (kind : Kind) → (1 ≤ kind_sweeps kind) × (kind_sweeps kind ≤ 2)
kind_few N = (omega arith, omega arith)
kind_few B = (omega arith, omega arith)
kind_few E = (omega arith, omega arith)
kind_few BE = (omega arith, omega arith)
kind_few X = (omega arith, omega arith)

module _ {K : Type 0} where
  abbrev pub sweeps_left : List (Notice K) → ℕ
  sweeps_left [] = 0
  sweeps_left (n ∷ ns) = kind_sweeps n.kind + sweeps_left ns

  pub sweeps_most : (ns : List (Notice K)) → sweeps_left ns ≤ 2 * length ns
  sweeps_most [] = omega arith
  sweeps_most (n ∷ ns) = omega (arith, sweeps_most ns, kind_few n.kind)

  pub none_left : (ns : List (Notice K)) → sweeps_left ns ≤ 0 → ns ≡ []
  none_left [] h = refl
  none_left (n ∷ ns) h = absurd (omega (arith, kind_few n.kind))

  left_append : (xs ys : List (Notice K)) → sweeps_left (xs ++ ys) ≡ sweeps_left xs + sweeps_left ys
  left_append [] ys = omega arith
  left_append (n ∷ xs) ys = omega (arith, left_append xs ys)

module _ {K R : Type 0} where
  -- one sweep less to do, and still at rest
  abbrev pub Nearer : Store K R → Outcome K R → Type 0
  Nearer σ z = (sweeps_left z.after.memo ≤ sweeps_left σ.memo - 1) × Resting z.after

  none_due : (σ : Store K R) (ns : List (Notice K)) → All (λ n. due σ n ≡ true) ns → any (due σ) ns ≡ false → ns ≡ []
  unfolding any
  none_due σ [] a h = refl
  none_due σ (n ∷ ns) a h = absurd (both_ways (due σ n) (or_parts (due σ n) (any (due σ) ns) h).0 a.0)

module _ {K R : Type 0} (number : K → ℕ) (σ : Store K R) where
  -- the first due notice is taken out, or becomes one of another kind
  sweep_counts : (n : Notice K) → Spot (due σ) σ.memo n → (o : Option Kind)
      → sweeps_left (sweep_kind number σ n o).after.memo + kind_sweeps n.kind ≡ sweeps_left σ.memo + rest_sweeps o
  sweep_counts n place = go
    where
      was : sweeps_left σ.memo ≡ sweeps_left place.pre + (kind_sweeps n.kind + sweeps_left place.post)
      was = ap sweeps_left place.is ∙ left_append place.pre (n ∷ place.post)

      edited : (f : Notice K → List (Notice K))
          → sweeps_left (at_first (due σ) f σ.memo) ≡ sweeps_left place.pre + sweeps_left (f n ++ place.post)
      edited f = ap sweeps_left (place.edit f) ∙ left_append place.pre (f n ++ place.post)

      go : (o : Option Kind)
          → sweeps_left (sweep_kind number σ n o).after.memo + kind_sweeps n.kind ≡ sweeps_left σ.memo + rest_sweeps o
      go None = omega (arith, was, edited (λ x. []))
      go (Some kind) = omega (arith, was, edited (λ x. one (with_kind kind x)))

  swept_rests : Resting σ → (n : Notice K) (o : Option Kind) → Resting (sweep_kind number σ n o).after
  swept_rests rest n None = record { shut = rest.shut; still = rest.still }
  swept_rests rest n (Some kind) = record { shut = rest.shut; still = rest.still }

  pub sweep_nearer : (T : History R) → Whole number σ T → Resting σ → Nearer σ (sweep_rule number σ.lengths σ)
  sweep_nearer T w rest = lent_own (Nearer σ) _ σ _ _ (go (first (due σ) σ.memo) refl)
    where
      go : (o : Option (Notice K)) → first (due σ) σ.memo ≡ o → Nearer σ (sweep_notice number σ o)
      go None e =
          let empty = none_due σ σ.memo (all_due number σ T w rest) (first_none _ σ.memo e) in
          (rw empty (omega arith), rest)
      go (Some n) e =
          let counts = sweep_counts n (spot (due σ) σ.memo n e) (becomes n.kind Empty) in
          (omega (arith, counts, one_less n.kind), swept_rests rest n (becomes n.kind Empty))
