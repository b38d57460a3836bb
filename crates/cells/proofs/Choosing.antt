-- Choose keeps the relation: the chosen row and its new pending notice stand in a cell that was empty.
use Rattle.std.proofs.Common.{◌≡◌, ℕ, ◌+◌, ◌<◌, true, false, ◌&&◌, [], ◌++◌, Some, sym, refl, ap, ◌∙◌, append-nil, arith, None, Option}
use Rattle.std.proofs.lemmas.Bool.{eqb-true, ne_eqb, and_parts}
use Rattle.rules.specs.declared.times.Moment.{Moment}
use Rattle.rules.specs.declared.tables.HotRow.{HotRow}
use Rattle.rules.specs.declared.tables.MoveMark.{MoveMark}
use Rattle.rules.specs.declared.tables.Notice.{Notice}
use Rattle.rules.specs.declared.times.Moment.TheVariants as moment
use Rattle.rules.specs.declared.tables.MoveMark.TheVariants.{Unmoved, Chosen, Copied}
use Rattle.cold.specs.Cold.{is_of}
use Rattle.rules.specs.Looking.{is_for}
use Rattle.rules.specs.Moving.{unmoved, with_mark, movable, new_pending, chosen}
use Rattle.rules.specs.Stores.{Store, horizon_of}
use Rattle.rules.specs.Times.{stamped_begin, open_end}
use Rattle.slots.specs.Lists.{first, kept, one}
use Rattle.slots.proofs.Folds.{kept_append, Spot, spot}
use Rattle.slots.proofs.Edits.{none_kept, kept_hit, kept_miss, kept_calm, kept_new, each_calm}
use Rattle.versions.specs.History.{History}
use Rattle.cells.proofs.Cells.{Cell, c_chosen, mover, hot_version, Sound, Whole}
use Rattle.cells.proofs.Shapes.{same_pair, pair_self, every_pair, cell_eq, no_notice}
use Rattle.cells.proofs.OneCell.{SameElsewhere, whole_with}
use Rattle.cells.proofs.Splitting.{Elsewhere, cold_calm}

movable_is : (x : Moment) (y : Option Moment) → (stamped_begin x && open_end y) ≡ true → (i : ℕ) × (x ≡ moment.Stamp i) × (y ≡ None)
movable_is (moment.Stamp i) None h = (i, refl, refl)
movable_is (moment.Stamp i) (Some x) h = absurd cc
movable_is (moment.Mark m) y h = absurd cc

unmoved_is : (m : MoveMark) → unmoved m ≡ true → m ≡ Unmoved
unmoved_is Unmoved h = refl
unmoved_is (Chosen t) h = absurd cc
unmoved_is (Copied t) h = absurd cc

module _ {K R : Type 0} (number : K → ℕ) (σ : Store K R) (T : History R) (w : Whole number σ T) (key : K) (h : HotRow K R) where
  module _ (is : first (movable number (number key)) σ.hot ≡ Some h) (free : unmoved h.mark ≡ true) (room : σ.last_tag < 4000000000) where
    abbrev tag : ℕ
    tag = σ.last_tag + 1

    abbrev pending : Notice K
    pending = new_pending key tag

    abbrev marked : HotRow K R
    marked = with_mark (Chosen tag) h

    abbrev after : Store K R
    after = chosen number σ key tag

    place : Spot (movable number (number key)) σ.hot h
    place = spot (movable number (number key)) σ.hot h is

    its_key : number h.key ≡ number key
    its_key = eqb-true _ _ (and_parts _ _ place.passes).0

    -- nothing bears the new tag yet
    unused : (kept (is_for number (number key) tag) σ.memo ≡ []) × (kept (is_of (number key) tag) σ.cold ≡ [])
    unused = w.sound.unused (number key) tag (omega arith)

    note_here : kept (is_for number (number key) tag) after.memo ≡ one pending
    note_here =
        kept_append _ σ.memo (one pending)
        ∙ rw unused.0 (kept_hit (is_for number (number key) tag) pending (pair_self (number key) tag))

    notes_elsewhere : Elsewhere number σ.memo after.memo (number key) tag
    notes_elsewhere k t p =
        kept_append _ σ.memo (one pending)
        ∙ (ap (λ z. kept (is_for number k t) σ.memo ++ z) (kept_miss (is_for number k t) pending p) ∙ append-nil _)

    -- the row bore no tag, and bears the new one
    not_mover : (k t : ℕ) → mover number k t h ≡ false
    not_mover k t = rw (unmoved_is h.mark free) (grind arith)

    now_mover : (k t : ℕ) → mover number k t marked ≡ same_pair (number key) tag k t
    now_mover k t = ap (λ z. same_pair z tag k t) its_key

    mover_here : kept (mover number (number key) tag) after.hot ≡ one marked
    mover_here =
        kept_new place (mover number (number key) tag) _ (no_notice _ _ _ _ (w.sound.cells (number key) tag) unused.0)
        ∙ kept_hit (mover number (number key) tag) marked (now_mover (number key) tag ∙ pair_self (number key) tag)

    movers_elsewhere : SameElsewhere (mover number) σ.hot after.hot (number key) tag
    movers_elsewhere k t p =
        kept_calm place (mover number k t) _
        (kept_miss (mover number k t) marked (now_mover k t ∙ p) ∙ sym (kept_miss (mover number k t) h (not_mover k t)))

    cell_here : Cell (horizon_of σ) (kept (is_for number (number key) tag) after.memo) (kept (is_of (number key) tag) σ.cold)
        (kept (mover number (number key) tag) after.hot)
    cell_here =
        let m = movable_is h.begin h.end (and_parts _ _ place.passes).1 in
        c_chosen pending marked m.0 note_here (record { kind = refl; begin = refl; end = refl }) unused.1 mover_here tag refl m.1 m.2

    sound_after : Sound number (horizon_of σ) tag σ.admits after.hot after.memo σ.cold
    sound_after = record {
      cells = every_pair (number key) tag
          (λ k t. Cell (horizon_of σ) (kept (is_for number k t) after.memo) (kept (is_of k t) σ.cold) (kept (mover number k t) after.hot))
          cell_here
          (λ k t p. cell_eq (notes_elsewhere k t p) refl (movers_elsewhere k t p) (w.sound.cells k t));
      unused = λ k t above.
          let u = w.sound.unused k t (omega arith) in
          let other : same_pair (number key) tag k t ≡ false = rw (ne_eqb tag t (λ z. omega arith)) (grind arith) in
          (notes_elsewhere k t other ∙ u.0, u.1);
      known = w.sound.known;
    }

    pub whole_choose : Whole number (chosen number σ key (σ.last_tag + 1)) T
    whole_choose = whole_with number σ T after.hot after.memo σ.cold σ.admits tag w (omega arith) sound_after (λ k.
        let calm = cold_calm number σ.memo after.memo σ.cold (number key) tag k notes_elsewhere (none_kept _ σ.cold unused.1) in
        rw (each_calm place (hot_version number k) marked (λ x. one (with_mark (Chosen tag) x)) refl refl, calm) (w.rel k))
