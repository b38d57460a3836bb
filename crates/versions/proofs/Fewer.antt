-- What no reader from the horizon on can tell apart: a version that ended by then may go, and a begin up to then may sink.
-- Collect and the sweeps change the versions of a key in these two ways only.
use Rattle.std.proofs.Common.{◌≡◌, ℕ, ◌≤◌, Bool, true, false, ◌||◌, List, [], ◌∷◌, ◌++◌, Option, refl, ap, ◌∙◌, arith, None, Some}
use Rattle.std.specs.List.{AllByRecursion as All}
use Rattle.std.proofs.lemmas.Bool.{leb-true}
use Rattle.std.proofs.lemmas.Bool.Decides.{nat_tests}
use Rattle.rules.specs.declared.times.Moment.{Moment}
use Rattle.rules.specs.declared.times.Moment.TheVariants as moment
use Rattle.rules.specs.Times.{end_past}
use Rattle.slots.specs.Lists.{any, one, each, one_if}
use Rattle.versions.specs.History.{Commit, Turn}
use Rattle.versions.proofs.Versions.{Version, Shaped, v_plain, v_sees, v_begun, v_ended, v_above, VShaped, rows, Rel, Tidy}

-- a version that began at n and ended at m, and one that began at n and has not ended
abbrev pub from_to : {R : Type 0} → ℕ → ℕ → R → Version R
from_to n m r = record { begin = moment.Stamp n; end = Some (moment.Stamp m); row = r }

abbrev pub from_on : {R : Type 0} → ℕ → R → Version R
from_on n r = record { begin = moment.Stamp n; end = None; row = r }

-- the second list is the first with versions gone or sunk
pub data Fewer {R : Type 0} (h : ℕ) : List (Version R) → List (Version R) → Type 0 where
  none : Fewer h [] []
  same : {xs ys : List (Version R)} (v : Version R) → Fewer h xs ys → Fewer h (v ∷ xs) (v ∷ ys)
  gone : {xs ys : List (Version R)} (n m : ℕ) (r : R) → n ≤ m → m ≤ h → Fewer h xs ys → Fewer h (from_to n m r ∷ xs) ys
  sunk : {xs ys : List (Version R)} (n m : ℕ) (r : R) → n ≤ h → m ≤ h → Fewer h xs ys → Fewer h (from_on n r ∷ xs) (from_on m r ∷ ys)

module _ {R : Type 0} (h : ℕ) where
  pub fewer_all : (xs : List (Version R)) → Fewer h xs xs
  fewer_all [] = none
  fewer_all (x ∷ xs) = same x (fewer_all xs)

  pub fewer_append : {xs ys us vs : List (Version R)} → Fewer h xs ys → Fewer h us vs → Fewer h (xs ++ us) (ys ++ vs)
  fewer_append none g = g
  fewer_append (same v f) g = same v (fewer_append f g)
  fewer_append (gone n m r l u f) g = gone n m r l u (fewer_append f g)
  fewer_append (sunk n m r l u f) g = sunk n m r l u (fewer_append f g)

  -- a version whose end is past
  pub fewer_past : (x : Moment) (y : Option Moment) (r : R) → Shaped x y → end_past y h ≡ true
      → Fewer h (one (record { begin = x; end = y; row = r })) []
  fewer_past x None r shaped past = absurd cc
  fewer_past (moment.Stamp n) (Some (moment.Stamp m)) r shaped past = gone n m r shaped (leb-true m h past) none
  fewer_past (moment.Mark s) (Some (moment.Stamp m)) r shaped past = elim shaped [ ]
  fewer_past x (Some (moment.Mark m)) r shaped past = absurd cc

  -- a test that tells neither
  record Blind (p : Version R → Bool) : Type 0 where
    to_gone : (n m : ℕ) (r : R) → n ≤ m → m ≤ h → p (from_to n m r) ≡ false
    to_sunk : (n m : ℕ) (r : R) → n ≤ h → m ≤ h → p (from_on n r) ≡ p (from_on m r)

  rows_fewer : (p : Version R → Bool) → Blind p → {xs ys : List (Version R)} → Fewer h xs ys → rows p ys ≡ rows p xs
  unfolding each
  rows_fewer p blind none = refl
  rows_fewer p blind (same v f) = ap (λ z. one_if (p v) v.row ++ z) (rows_fewer p blind f)
  rows_fewer p blind (gone n m r l u f) = rw (blind.to_gone n m r l u) (rows_fewer p blind f)
  rows_fewer p blind (sunk n m r l u f) =
      rw (blind.to_sunk n m r l u) (ap (λ z. one_if (p (from_on m r)) r ++ z) (rows_fewer p blind f))

  any_fewer : (p : Version R → Bool) → Blind p → {xs ys : List (Version R)} → Fewer h xs ys → any p ys ≡ any p xs
  unfolding any
  any_fewer p blind none = refl
  any_fewer p blind (same v f) = ap (λ z. p v || z) (any_fewer p blind f)
  any_fewer p blind (gone n m r l u f) = rw (blind.to_gone n m r l u) (any_fewer p blind f)
  any_fewer p blind (sunk n m r l u f) = rw (blind.to_sunk n m r l u) (ap (λ z. p (from_on m r) || z) (any_fewer p blind f))

  shaped_fewer : {xs ys : List (Version R)} → Fewer h xs ys → All VShaped xs → All VShaped ys
  shaped_fewer none a = tt
  shaped_fewer (same v f) a = (a.0, shaped_fewer f a.1)
  shaped_fewer (gone n m r l u f) a = shaped_fewer f a.1
  shaped_fewer (sunk n m r l u f) a = (tt, shaped_fewer f a.1)

  -- readers from the horizon on, and marks
  plain_blind : (t : ℕ) → h ≤ t → Blind (v_plain t)
  plain_blind t l = record { to_gone = λ n m r x y. grind (arith, nat_tests); to_sunk = λ n m r x y. grind (arith, nat_tests) }

  sees_blind : (s t : ℕ) → h ≤ t → Blind (v_sees s t)
  sees_blind s t l = record { to_gone = λ n m r x y. grind (arith, nat_tests); to_sunk = λ n m r x y. grind (arith, nat_tests) }

  above_blind : (t : ℕ) → h ≤ t → Blind (v_above t)
  above_blind t l = record { to_gone = λ n m r x y. grind (arith, nat_tests); to_sunk = λ n m r x y. grind (arith, nat_tests) }

  begun_blind : (s : ℕ) → Blind (v_begun s)
  begun_blind s = record { to_gone = λ n m r x y. refl; to_sunk = λ n m r x y. refl }

  ended_blind : (s : ℕ) → Blind (v_ended s)
  ended_blind s = record { to_gone = λ n m r x y. refl; to_sunk = λ n m r x y. refl }

pub rel_fewer : {R : Type 0} {h c : ℕ} {cs : List (Commit R)} {turn : ℕ → Option (Turn R)} {k : ℕ} {V W : List (Version R)}
    → Tidy h c cs turn k → Fewer h V W → Rel h cs turn k V → Rel h cs turn k W
rel_fewer {h = h} tidy f rel = record {
  plain = λ t l. rows_fewer h (v_plain t) (plain_blind h t l) f ∙ rel.plain t l;
  mine = λ s w wrote t l.
      let blind = sees_blind h s t (omega (arith, tidy.reads s w wrote)) in
      rows_fewer h (v_sees s t) blind f ∙ rel.mine s w wrote t l;
  begun = λ s. rows_fewer h (v_begun s) (begun_blind h s) f ∙ rel.begun s;
  ended = λ s. any_fewer h (v_ended s) (ended_blind h s) f ∙ rel.ended s;
  stamps = λ t l. any_fewer h (v_above t) (above_blind h t l) f ∙ rel.stamps t l;
  shaped = shaped_fewer h f rel.shaped;
}
