-- A store at rest: no session is open, and no row is on the move. Its horizon is its clock, and every notice is due.
use Rattle.std.proofs.Common.{◌≡◌, ℕ, suc, Bool, true, false, not, ◌&&◌, ◌||◌, eqb, List, [], ◌∷◌, None, sym, refl, ap, ◌∙◌, subst, inl, inr, arith, Some, Option, unwrap_or}
use Rattle.std.specs.List.{AllByRecursion as All}
use Rattle.std.proofs.lemmas.Bool.{cases_Bool, both_ways, not-false, not_from_false, eq-eqb, or_parts}
use Rattle.std.proofs.lemmas.Bool.Decides.{nat_tests}
use Rattle.rules.specs.declared.times.Moment.{Moment}
use Rattle.rules.specs.declared.times.Moment.TheVariants as moment
use Rattle.rules.specs.declared.tables.HotRow.{HotRow}
use Rattle.rules.specs.declared.tables.Kind.{Kind}
use Rattle.rules.specs.declared.tables.Kind.TheVariants.{N, B, E, BE, X}
use Rattle.rules.specs.declared.tables.MoveMark.{MoveMark}
use Rattle.rules.specs.declared.tables.MoveMark.TheVariants.{Unmoved, Chosen, Copied}
use Rattle.rules.specs.declared.tables.Notice.{Notice}
use Rattle.rules.specs.declared.sheet.Session.{Session}
use Rattle.cold.specs.Cold.{Entry}
use Rattle.rules.specs.Horizon.{lesser, least_time}
use Rattle.rules.specs.Looking.{is_for, above}
use Rattle.rules.specs.Moving.{bears, unmoved, row_bears, due}
use Rattle.rules.specs.Notices.{due_kind}
use Rattle.rules.specs.Selling.{hot_marked, notice_marked, has_marks}
use Rattle.rules.specs.Stores.{Store, closed, session_at, horizon_of}
use Rattle.rules.specs.Times.{begin_marked, end_marked, begin_above, end_above, end_past, open_end}
use Rattle.slots.specs.Lists.{any, kept, one}
use Rattle.slots.proofs.Folds.{none_all, all_none, all_both, all_then}
use Rattle.versions.specs.History.{History, turn_writes}
use Rattle.versions.proofs.Marks.{wrote_none}
use Rattle.cells.proofs.Cells.{Cell, Whole, c_empty, c_plain, c_idle, c_chosen, c_copied, c_begun, c_ended, c_both, c_emptied}
use Rattle.cells.proofs.Sessions.{closed_turn}
use Rattle.cells.proofs.Shapes.{pair_self}
use Rattle.cells.proofs.Traces.{above_is, none_marked}

module _ {X : Type 0} where
  -- what holds of all for each i holds of each element for all i
  all_for_each : {I : Type 0} (P : I → X → Type 0) (xs : List X) → ((i : I) → All (P i) xs) → All (λ x. (i : I) → P i x) xs
  all_for_each P [] a = tt
  all_for_each P (x ∷ xs) a = (λ i. (a i).0, all_for_each P xs (λ i. (a i).1))

  -- none passes where none of any key does
  of_own_key : (key : X → ℕ) (p : X → Bool) (xs : List X)
      → ((k : ℕ) → any (λ x. eqb (key x) k && p x) xs ≡ false) → All (λ x. p x ≡ false) xs
  of_own_key key p xs none =
      all_then _ _ xs (all_for_each (λ k x. (eqb (key x) k && p x) ≡ false) xs (λ k. none_all _ xs (none k)))
      (λ x f. let own = f (key x) in rw (eq-eqb (key x) (key x) refl) at own)

  -- what holds of those kept holds of those that pass
  of_kept : (P : X → Type 0) (p : X → Bool) (xs : List X) → All P (kept p xs) → All (λ x. p x ≡ true → P x) xs
  unfolding kept
  of_kept P p [] a = tt
  of_kept P p (x ∷ xs) a = elim (cases_Bool (p x)) [
    | inl y ↦ let both = rw y at a in (λ q. both.0, of_kept P p xs both.1)
    | inr y ↦ (λ q. absurd (both_ways (p x) y q), of_kept P p xs (rw y at a))
  ]

-- neither a mark nor a stamp above c
abbrev pub DoneBy : ℕ → Moment → Option Moment → Type 0
DoneBy c x y = ((s : ℕ) → (begin_marked x s || end_marked y s) ≡ false) × ((begin_above x c || end_above y c) ≡ false)

-- such an end is past at c, if it is not open
ended_past : (c x : ℕ) (y : Option Moment) → DoneBy c (moment.Stamp x) y → open_end y ≡ false → end_past y c ≡ true
ended_past c x None d ends = absurd cc
ended_past c x (Some (moment.Stamp n)) d ends = let low = d.1 in grind (arith, nat_tests)
ended_past c x (Some (moment.Mark m)) d ends = absurd (both_ways (eqb m m) (d.0 m) (eq-eqb m m refl))

-- the end of an E or a BE notice is not open
abbrev EndsTold : Kind → Option Moment → Type 0
EndsTold N y = Unit {0}
EndsTold B y = Unit {0}
EndsTold E y = open_end y ≡ false
EndsTold BE y = open_end y ≡ false
EndsTold X y = Unit {0}

kind_due : (kind : Kind) (c x : ℕ) (y : Option Moment) (borne : Bool)
    → EndsTold kind y → DoneBy c (moment.Stamp x) y → borne ≡ false → due_kind kind x y c borne ≡ true
kind_due N c x y borne told d un = not_from_false borne un
kind_due B c x y borne told d un = let low = d.1 in grind (arith, nat_tests)
kind_due E c x y borne told d un = ended_past c x y d told
kind_due BE c x y borne told d un = ended_past c x y d told
kind_due X c x y borne told d un = refl

-- with no session open there is no read time
no_times : (xs : List Session) → ((s : ℕ) → session_at xs s ≡ closed) → least_time xs ≡ None
unfolding least_time
no_times [] shut = refl
no_times (x ∷ xs) shut = ap (λ z. lesser z.reading (least_time xs)) (shut 0) ∙ no_times xs (λ s. shut (suc s))

bears_none : (mark : MoveMark) (tag : ℕ) → unmoved mark ≡ true → bears mark tag ≡ false
bears_none Unmoved tag h = refl
bears_none (Chosen t) tag h = absurd cc
bears_none (Copied t) tag h = absurd cc

module _ {K R : Type 0} where
  pub record Resting (σ : Store K R) : Type 0 where
    pub shut : (s : ℕ) → session_at σ.sessions s ≡ closed
    pub still : any (λ h. not (unmoved h.mark)) σ.hot ≡ false

  -- no row bears a tag
  unborne : (σ : Store K R) → Resting σ → (tag : ℕ) → any (row_bears tag) σ.hot ≡ false
  unborne σ rest tag =
      all_none _ σ.hot (all_then _ _ σ.hot (none_all _ σ.hot rest.still) (λ h p. bears_none h.mark tag (not-false _ p)))

module _ {K : Type 0} where
  told_as : (n : Notice K) (kind : Kind) → n.kind ≡ kind → EndsTold kind n.end → All (λ m. EndsTold m.kind m.end) (one n)
  told_as n kind is told = (subst (λ k. EndsTold k n.end) (sym is) told, tt)

module _ {K R : Type 0} where
  -- the notices of a cell tell their ends
  cell_told : (h : ℕ) (ns : List (Notice K)) (es : List (Entry R)) (ms : List (HotRow K R))
      → Cell h ns es ms → All (λ n. EndsTold n.kind n.end) ns
  cell_told h ns es ms (c_empty p q z) = rw p tt
  cell_told h ns es ms (c_plain c p q z) = rw p tt
  cell_told h ns es ms (c_idle n p q u z) = rw p (told_as n N q.kind tt)
  cell_told h ns es ms (c_chosen n m i p q u z t a x y) = rw p (told_as n N q.kind tt)
  cell_told h ns es ms (c_copied n m i c p q u z t a x y v) = rw p (told_as n N q.kind tt)
  cell_told h ns es ms (c_begun n c p q u x z) = rw p (told_as n B q tt)
  cell_told h ns es ms (c_ended n c p q u x z ne) = rw p (told_as n E q ne)
  cell_told h ns es ms (c_both n c p q x z ne) = rw p (told_as n BE q ne)
  cell_told h ns es ms (c_emptied n p q u v x z) = rw p (told_as n X q tt)

module _ {K R : Type 0} (number : K → ℕ) (σ : Store K R) (T : History R) (w : Whole number σ T) (rest : Resting σ) where
  pub horizon_clock : horizon_of σ ≡ σ.clock
  horizon_clock = ap (λ o. unwrap_or o σ.clock) (no_times σ.sessions rest.shut)

  -- no mark is left, and no stamp is above the clock
  unmarked : (s : ℕ) → has_marks σ s ≡ false
  unmarked s = none_marked number σ T w s (λ k. ap (λ o. turn_writes o k) no_turn)
    where
      no_turn : T.turn s ≡ None
      no_turn =
          closed_turn number (session_at σ.sessions s).reading (T.turn s) (w.agree s) (ap (λ x. x.reading) (rest.shut s))

  no_stamp_above : (k : ℕ) → above number σ σ.clock k ≡ false
  no_stamp_above k =
      above_is number σ T w σ.clock k (w.tidy k).low w.started ∙ wrote_none T.commits σ.clock k (w.tidy k).past

  pub rows_done : All (λ h. DoneBy σ.clock h.begin h.end) σ.hot
  rows_done = all_both _ _ σ.hot
      (all_for_each (λ s h. hot_marked s h ≡ false) σ.hot (λ s. none_all _ σ.hot (or_parts _ _ (unmarked s)).0))
      (of_own_key (λ h. number h.key) _ σ.hot (λ k. (or_parts _ _ (no_stamp_above k)).0))

  notices_done : All (λ n. DoneBy σ.clock (moment.Stamp n.begin) n.end) σ.memo
  notices_done = all_both _ _ σ.memo
      (all_for_each (λ s n. notice_marked s n ≡ false) σ.memo (λ s. none_all _ σ.memo (or_parts _ _ (unmarked s)).1))
      (of_own_key (λ n. number n.key) _ σ.memo (λ k. (or_parts _ _ (no_stamp_above k)).1))

  notices_told : All (λ n. EndsTold n.kind n.end) σ.memo
  notices_told =
      all_then _ _ σ.memo
      (all_for_each _ σ.memo (λ k. all_for_each _ σ.memo (λ tag.
      of_kept _ (is_for number k tag) σ.memo (cell_told _ _ _ _ (w.sound.cells k tag)))))
      (λ n f. f (number n.key) n.tag (pair_self (number n.key) n.tag))

  pub all_due : All (λ n. due σ n ≡ true) σ.memo
  all_due = all_then _ _ σ.memo (all_both _ _ σ.memo notices_told notices_done) (λ n p.
      rw horizon_clock (kind_due n.kind σ.clock n.begin n.end _ p.0 p.1 (unborne σ rest n.tag)))
