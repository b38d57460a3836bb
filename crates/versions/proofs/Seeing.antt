-- What a session sees of a version that has no mark of its own, and of one with nothing foreign to it.
-- s is the session, t and u are read times.
use Rattle.std.proofs.Common.{◌≡◌, ℕ, ◌≤◌, Bool, false, ◌||◌, List, refl, arith, None, Some, Option}
use Rattle.std.specs.List.{AllByRecursion as All}
use Rattle.std.proofs.lemmas.Bool.{or_parts}
use Rattle.std.proofs.lemmas.Bool.Decides.{nat_tests}
use Rattle.rules.specs.declared.times.Moment.{Moment}
use Rattle.rules.specs.declared.times.Moment.TheVariants as moment
use Rattle.rules.specs.Times.{begun, ended, begin_marked, end_marked, begin_above, end_above, foreign_begin, foreign_end}
use Rattle.slots.proofs.Folds.{all_then}
use Rattle.versions.proofs.Versions.{Version, plain_begun, plain_ended, v_plain, v_sees, v_above, rows}
use Rattle.versions.proofs.Rows.{rows_same}
use Rattle.versions.proofs.Marks.{NoMark, OnlyMark, own_mark, OnlyBegin, OnlyEnd, only_begin, only_end}

module _ {R : Type 0} where
  -- another session's mark, or a stamp above t
  abbrev pub v_foreign : ℕ → ℕ → Version R → Bool
  v_foreign s t v = foreign_begin v.begin s t || foreign_end v.end s t

  abbrev pub CalmFor : ℕ → ℕ → Version R → Type 0
  CalmFor s t v = v_foreign s t v ≡ false

-- begins and ends
module _ (s t : ℕ) where
  -- without a mark of s they are as for any reader
  begun_plain : (x : Moment) → begin_marked x s ≡ false → begun x s t ≡ plain_begun t x
  begun_plain (moment.Stamp n) none = refl
  begun_plain (moment.Mark n) none = none

  ended_plain : (y : Option Moment) → end_marked y s ≡ false → ended y s t ≡ plain_ended t y
  ended_plain None none = refl
  ended_plain (Some x) none = begun_plain x none

  -- with nothing foreign they are at a later time as they were
  begun_later : (u : ℕ) → t ≤ u → (x : Moment) → foreign_begin x s t ≡ false → begun x s u ≡ begun x s t
  begun_later u le (moment.Stamp n) calm = grind (arith, nat_tests)
  begun_later u le (moment.Mark n) calm = refl

  ended_later : (u : ℕ) → t ≤ u → (y : Option Moment) → foreign_end y s t ≡ false → ended y s u ≡ ended y s t
  ended_later u le None calm = refl
  ended_later u le (Some x) calm = begun_later u le x calm

  -- nothing foreign: no other mark, and no stamp above t
  begin_own : (x : Moment) → foreign_begin x s t ≡ false → OnlyBegin s x
  begin_own (moment.Stamp n) calm m ne = refl
  begin_own (moment.Mark n) calm m ne = grind (arith, nat_tests)

  end_own : (y : Option Moment) → foreign_end y s t ≡ false → OnlyEnd s y
  end_own None calm m ne = refl
  end_own (Some x) calm m ne = begin_own x calm m ne

  begin_low : (x : Moment) → foreign_begin x s t ≡ false → begin_above x t ≡ false
  begin_low (moment.Stamp n) calm = calm
  begin_low (moment.Mark n) calm = refl

  end_low : (y : Option Moment) → foreign_end y s t ≡ false → end_above y t ≡ false
  end_low None calm = refl
  end_low (Some x) calm = begin_low x calm

  -- and the other way round
  begin_calm : (x : Moment) → OnlyBegin s x → begin_above x t ≡ false → foreign_begin x s t ≡ false
  begin_calm (moment.Stamp n) only low = low
  begin_calm (moment.Mark n) only low = let own = own_mark n s only in grind (arith, nat_tests)

  end_calm : (y : Option Moment) → OnlyEnd s y → end_above y t ≡ false → foreign_end y s t ≡ false
  end_calm None only low = refl
  end_calm (Some x) only low = begin_calm x only low

-- versions
module _ {R : Type 0} (s t : ℕ) where
  -- a session without a mark on a version sees it as any other reader does
  pub sees_plain : (v : Version R) → NoMark s v → v_sees s t v ≡ v_plain t v
  sees_plain v none = rw (begun_plain s t v.begin none.0, ended_plain s t v.end none.1)

  pub plain_reader : (V : List (Version R)) → All (NoMark s) V → rows (v_sees s t) V ≡ rows (v_plain t) V
  plain_reader V none = rows_same _ _ V (all_then _ _ V none sees_plain)

  -- where nothing is foreign, time does not matter
  pub sees_later : (u : ℕ) → t ≤ u → (v : Version R) → CalmFor s t v → v_sees s u v ≡ v_sees s t v
  sees_later u le v calm =
      let parts = or_parts (foreign_begin v.begin s t) (foreign_end v.end s t) calm in
      rw (begun_later s t u le v.begin parts.0, ended_later s t u le v.end parts.1)

  -- nothing is foreign just where there is no other mark and no stamp above t
  pub calm_only : (v : Version R) → CalmFor s t v → OnlyMark s v
  calm_only v calm m ne =
      let parts = or_parts (foreign_begin v.begin s t) (foreign_end v.end s t) calm in
      (begin_own s t v.begin parts.0 m ne, end_own s t v.end parts.1 m ne)

  pub calm_low : (v : Version R) → CalmFor s t v → v_above t v ≡ false
  calm_low v calm =
      let parts = or_parts (foreign_begin v.begin s t) (foreign_end v.end s t) calm in
      rw (begin_low s t v.begin parts.0, end_low s t v.end parts.1)

  pub only_calm : (v : Version R) → OnlyMark s v → v_above t v ≡ false → CalmFor s t v
  only_calm v only low =
      let parts = or_parts (begin_above v.begin t) (end_above v.end t) low in
      rw (begin_calm s t v.begin (only_begin s v only) parts.0, end_calm s t v.end (only_end s v only) parts.1)
