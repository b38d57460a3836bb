-- A key is in conflict for a session just where a version of it has another session's mark or a stamp above the read time,
-- and so just where the history has such a write: two stores of one history are in conflict alike.
use Rattle.std.proofs.Common.{◌≡◌, ℕ, ◌≤◌, Bool, false, ◌||◌, ltb, List, None, ◌∙◌, arith, Some, Option}
use Rattle.std.specs.List.{AllByRecursion as All}
use Rattle.std.proofs.lemmas.Bool.{or_parts}
use Rattle.std.proofs.lemmas.Bool.Decides.{nat_tests}
use Rattle.rules.specs.declared.times.Moment.{Moment}
use Rattle.rules.specs.declared.times.Moment.TheVariants as moment
use Rattle.rules.specs.Looking.{notice_foreign, hot_foreign, conflict}
use Rattle.rules.specs.Stores.{Store, horizon_of}
use Rattle.rules.specs.Times.{foreign_begin, foreign_end}
use Rattle.slots.specs.Lists.{any}
use Rattle.slots.proofs.Folds.{none_all, all_both, all_then}
use Rattle.versions.specs.History.{History, turn_read}
use Rattle.versions.proofs.Versions.{Version, v_above, writes_of, wrote_above}
use Rattle.versions.proofs.Marks.{only_marks, no_mark}
use Rattle.versions.proofs.Seeing.{CalmFor, only_calm}
use Rattle.versions.proofs.Writing.{Ready, no_other, none_since}
use Rattle.cells.proofs.Cells.{QuietEnd, versions, Whole}
use Rattle.cells.proofs.Telling.{FailsPast, FailsParts, tells_notices, tells_hot, tells_versions, or_open, or_one}

-- the test for session s with read time t
abbrev foreign : ℕ → ℕ → Moment → Option Moment → Bool
foreign s t x y = foreign_begin x s t || foreign_end y s t

foreign_parts : (s t : ℕ) → 1 ≤ t → FailsParts (foreign s t)
foreign_parts s t late = record {
  plain = grind (arith, nat_tests);
  opens = λ x y free. or_open (ltb t x) (foreign_end y s t) free;
  ones = λ x y free. or_one t x (foreign_end y s t) late free;
}

foreign_quiet : (s t h x : ℕ) (y : Option Moment) → h ≤ t → x ≤ h → QuietEnd h y → foreign s t (moment.Stamp x) y ≡ false
foreign_quiet s t h x None from low quiet = grind (arith, nat_tests)
foreign_quiet s t h x (Some (moment.Stamp n)) from low quiet = grind (arith, nat_tests)
foreign_quiet s t h x (Some (moment.Mark n)) from low quiet = elim quiet [ ]

foreign_past : (s t h : ℕ) → 1 ≤ t → h ≤ t → FailsPast h (foreign s t)
foreign_past s t h late from = record { plain = grind (arith, nat_tests); quiet = λ x y low quiet. foreign_quiet s t h x y from low quiet }

module _ {K R : Type 0} (number : K → ℕ) where
  -- without a conflict nothing foreign stands on the versions
  pub no_conflict : (σ : Store K R) (s t k : ℕ) → 1 ≤ t → conflict number σ s t k ≡ false → All (CalmFor s t) (versions number σ k)
  no_conflict σ s t k late free =
      let parts = or_parts (any (hot_foreign number s t k) σ.hot) (any (notice_foreign number s t k) σ.memo) free in
      tells_versions number σ k (foreign s t) (foreign_parts s t late) parts.1 parts.0

  -- where no other session has a write and no commit since, there is no conflict
  conflict_none : (σ : Store K R) (T : History R) (s t k : ℕ) → Whole number σ T → horizon_of σ ≤ t → 1 ≤ t
      → ((m : ℕ) → (m ≡ s → ⊥) → writes_of T.turn m k ≡ None) → wrote_above T.commits t k ≡ false
      → conflict number σ s t k ≡ false
  conflict_none σ T s t k w from late no_write none_since =
      let V : List (Version R) = versions number σ k in
      let only = only_marks s V (λ m ne. no_mark (w.rel k) m (no_write m ne)) in
      let low = none_all (v_above t) V ((w.rel k).stamps t from ∙ none_since) in
      let calm : All (CalmFor s t) V = all_then _ _ V (all_both _ _ V only low) (λ v p. only_calm s t v p.0 p.1) in
      let notices = tells_notices number σ k (foreign s t) calm w (foreign_past s t (horizon_of σ) late from) in
      rw (tells_hot number σ k (foreign s t) calm, notices)

  pub conflict_same : (σ τ : Store K R) (T : History R) (s k : ℕ) → Whole number σ T → Whole number τ T
      → horizon_of σ ≤ turn_read (T.turn s) → horizon_of τ ≤ turn_read (T.turn s)
      → 1 ≤ turn_read (T.turn s) → turn_read (T.turn s) ≤ τ.clock
      → conflict number τ s (turn_read (T.turn s)) k ≡ false → conflict number σ s (turn_read (T.turn s)) k ≡ false
  conflict_same σ τ T s k w x from from' late upto free =
      let time : ℕ = turn_read (T.turn s) in
      let ready : Ready (horizon_of τ) τ.clock T.commits T.turn k s (versions number τ k) =
      record { tidy = x.tidy k; rel = x.rel k; from = from'; upto = upto; calm = no_conflict τ s time k late free } in
      conflict_none σ T s time k w from late (no_other ready) (none_since ready)
