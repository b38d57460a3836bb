-- Copy keeps the relation: the new cold entry is hidden by the pending notice of its cell. A refused copy leaves only a
-- wider filter.
use Rattle.std.proofs.Common.{◌≡◌, ℕ, ◌≤◌, Bool, true, ◌&&◌, eqb, List, [], length, Some, sym, refl, ap, ◌∙◌, subst, inl, inr}
use Rattle.std.proofs.lemmas.Bool.{cases_Bool, eqb-true}
use Rattle.rules.specs.declared.tables.HotRow.{HotRow}
use Rattle.rules.specs.declared.tables.MoveMark.{MoveMark}
use Rattle.rules.specs.declared.tables.MoveMark.TheVariants.{Unmoved, Chosen, Copied}
use Rattle.cold.specs.Cold.{Entry, is_of, is_there, put_in, put_answer}
use Rattle.rules.specs.Looking.{is_for}
use Rattle.rules.specs.Moving.{bears, is_chosen, with_mark, row_chosen, copy_put}
use Rattle.rules.specs.Stores.{Store, with_hot, with_cold, with_admits, horizon_of}
use Rattle.slots.specs.Lists.{any, first, at_first, kept, one}
use Rattle.slots.proofs.Folds.{Spot, spot}
use Rattle.slots.proofs.Edits.{first_of_one, kept_hit, kept_miss, each_calm}
use Rattle.versions.specs.History.{History}
use Rattle.cells.proofs.Cells.{Cell, c_copied, mover, hot_version, cold_version, Whole}
use Rattle.cells.proofs.Shapes.{same_pair, pair_self, Held, UnderMove, under_move, few_movers}
use Rattle.cells.proofs.OneCell.{SameElsewhere, only_one, edit_here, edit_elsewhere, sound_but, whole_with}
use Rattle.cells.proofs.Entries.{kept_put_miss, kept_put_hit, each_put, any_put}
use Rattle.cells.proofs.Splitting.{cond_nil}

chosen_is : (m : MoveMark) (t : ℕ) → is_chosen m t ≡ true → m ≡ Chosen t
chosen_is Unmoved t h = absurd cc
chosen_is (Chosen u) t h = ap Chosen (eqb-true u t h)
chosen_is (Copied u) t h = absurd cc

module _ {K R : Type 0} (number : K → ℕ) (σ : Store K R) (T : History R) (w : Whole number σ T) (admits : ℕ → Bool) where
  -- a filter that admits all that it did
  pub whole_admits : ((k : ℕ) → σ.admits k ≡ true → admits k ≡ true) → Whole number (with_admits σ admits) T
  whole_admits wider =
      whole_with number σ T σ.hot σ.memo σ.cold admits σ.last_tag w w.tags
      (record { cells = w.sound.cells; unused = w.sound.unused; known = λ k p. wider k (w.sound.known k p) })
      w.rel

  module _ (tag : ℕ) (h : HotRow K R) (is : first (row_chosen tag) σ.hot ≡ Some h) where
    module _ (added : admits (number h.key) ≡ true) (wider : (k : ℕ) → σ.admits k ≡ true → admits k ≡ true) where
      abbrev own : ℕ
      own = number h.key

      abbrev entry : Entry R
      entry = record { number = own; tag = tag; row = h.row }

      abbrev marked : HotRow K R
      marked = with_mark (Copied tag) h

      abbrev hot_after : List (HotRow K R)
      hot_after = at_first (row_chosen tag) (λ x. one (with_mark (Copied tag) x)) σ.hot

      place : Spot (row_chosen tag) σ.hot h
      place = spot (row_chosen tag) σ.hot h is

      mark_is : h.mark ≡ Chosen tag
      mark_is = chosen_is h.mark tag place.passes

      -- the row bore the tag, and bears it still
      was_mover : (k t : ℕ) → mover number k t h ≡ same_pair own tag k t
      was_mover k t = ap (λ m. eqb own k && bears m t) mark_is

      few : length (kept (mover number own tag) σ.hot) ≤ 1
      few = few_movers _ _ _ _ (w.sound.cells own tag)

      mover_here : kept (mover number own tag) hot_after ≡ one marked
      mover_here = edit_here (mover number) own tag place was_mover few _ ∙ kept_hit (mover number own tag) marked (pair_self own tag)

      movers_elsewhere : SameElsewhere (mover number) σ.hot hot_after own tag
      movers_elsewhere = edit_elsewhere (mover number) own tag place was_mover _ (λ k t other. kept_miss (mover number k t) marked other)

      its_cell : UnderMove h (kept (is_for number own tag) σ.memo) (kept (is_of own tag) σ.cold)
      its_cell = under_move _ _ _ _ h (w.sound.cells own tag) (only_one (mover number) own tag place was_mover few)

      no_entry : kept (is_of own tag) σ.cold ≡ []
      no_entry = subst (λ m. Held m h.row (kept (is_of own tag) σ.cold)) mark_is its_cell.held

      cell_here : Cell (horizon_of σ) (kept (is_for number own tag) σ.memo) (kept (is_of own tag) (put_in entry σ.cold))
          (kept (mover number own tag) hot_after)
      cell_here =
          c_copied its_cell.note marked its_cell.stamp entry its_cell.notes its_cell.waits
          (kept_put_hit (is_of own tag) entry σ.cold (pair_self own tag) no_entry) mover_here tag refl
          its_cell.begins its_cell.ends refl

      known_after : (k : ℕ) → any (λ c. eqb c.number k) (put_in entry σ.cold) ≡ true → admits k ≡ true
      known_after k p = elim (cases_Bool (eqb own k)) [
        | inl q ↦ subst (λ n. admits n ≡ true) (eqb-true own k q) added
        | inr q ↦ wider k (w.sound.known k (sym (any_put (λ c. eqb c.number k) entry σ.cold ∙ rw q) ∙ p))
      ]

      -- the new entry has no version yet
      hidden : (k : ℕ) → cold_version number σ.memo k entry ≡ []
      hidden k =
          cond_nil (eqb own k) _
          (rw (first_of_one (is_for number own tag) σ.memo its_cell.note its_cell.notes, its_cell.waits.kind) refl)

      pub whole_copied : Whole number (with_cold (with_hot (with_admits σ admits) hot_after) (put_in entry σ.cold)) T
      whole_copied =
          whole_with number σ T hot_after σ.memo (put_in entry σ.cold) admits σ.last_tag w w.tags
          (sound_but number w.sound own tag its_cell.note its_cell.notes cell_here (λ k t other. refl)
          (λ k t other. kept_put_miss (is_of k t) entry σ.cold other) movers_elsewhere known_after)
          (λ k. rw (
            each_calm place (hot_version number k) marked (λ x. one (with_mark (Copied tag) x)) refl refl,
            each_put (cold_version number σ.memo k) entry σ.cold (hidden k),
          ) (w.rel k))

      -- however the cold store answers the put
      pub whole_copy : Whole number (copy_put number (with_admits σ admits) tag h (put_answer σ.limit σ.cold own tag)).after T
      whole_copy = elim (cases_Bool (is_there own tag σ.cold)) [
        | inl there ↦ rw there (whole_admits wider)
        | inr new ↦ elim (cases_Bool (eqb (length σ.cold) σ.limit)) [
          | inl full ↦ rw (new, full) (whole_admits wider)
          | inr room ↦ rw (new, room, new, room) whole_copied
        ]
      ]
