-- Settle keeps the relation: the version of the row that is taken out is the version that its cold entry now has.
use Rattle.std.proofs.Common.{◌≡◌, ℕ, ◌≤◌, true, cond, ◌&&◌, eqb, List, [], ◌++◌, length, Some, refl, ap, ◌∙◌, subst, append_assoc, None, Option}
use Rattle.std.proofs.lemmas.Bool.{eqb-true, and_parts}
use Rattle.rules.specs.declared.times.Moment.{Moment}
use Rattle.rules.specs.declared.tables.HotRow.{HotRow}
use Rattle.rules.specs.declared.tables.Kind.{Kind}
use Rattle.rules.specs.declared.tables.MoveMark.{MoveMark}
use Rattle.rules.specs.declared.tables.Notice.{Notice}
use Rattle.rules.specs.declared.times.Moment.TheVariants as moment
use Rattle.rules.specs.declared.tables.Kind.TheVariants.{N}
use Rattle.rules.specs.declared.tables.MoveMark.TheVariants.{Unmoved, Chosen, Copied}
use Rattle.rules.specs.declared.notices.NoticeEvent.TheVariants.{Settle}
use Rattle.cold.specs.Cold.{Entry, is_of}
use Rattle.rules.specs.Looking.{is_for}
use Rattle.rules.specs.Moving.{bears, is_copied, row_copied, settled_begin, settle_notice, settle_row}
use Rattle.rules.specs.Notices.{becomes}
use Rattle.rules.specs.Selling.{kind_or}
use Rattle.rules.specs.Stores.{Store, horizon_of}
use Rattle.rules.specs.Times.{begin_stamp}
use Rattle.slots.specs.Lists.{first, kept, one, one_if}
use Rattle.slots.proofs.Folds.{Spot, spot}
use Rattle.slots.proofs.Edits.{first_of_one, kept_hit, kept_miss, each_is, each_out}
use Rattle.versions.specs.History.{History}
use Rattle.versions.proofs.Versions.{Version}
use Rattle.versions.proofs.Swapping.{rel_swap}
use Rattle.cells.proofs.Cells.{Cell, c_begun, mover, hot_version, cold_version, hot_part, kind_version, entry_version, versions, Whole}
use Rattle.cells.proofs.Shapes.{same_pair, pair_self, Held, UnderMove, under_move, few_notes, few_movers}
use Rattle.cells.proofs.OneCell.{SameElsewhere, only_one, edit_here, edit_elsewhere, nothing_inside, sound_but, whole_with}
use Rattle.cells.proofs.Splitting.{Elsewhere, Split, split, version_at, cond_nil, cond_one}

copied_is : (m : MoveMark) (t : ℕ) → is_copied m t ≡ true → m ≡ Copied t
copied_is Unmoved t h = absurd cc
copied_is (Chosen u) t h = absurd cc
copied_is (Copied u) t h = ap Copied (eqb-true u t h)

module _ {R : Type 0} where
  -- the version of an entry whose notice was pending, once the row's begin is in the notice
  settled_version : (kind : Kind) (old : ℕ) (end : Option Moment) (x : Moment) (y : Option Moment) (i : ℕ) (r q : R)
      → kind ≡ N → x ≡ moment.Stamp i → y ≡ None → r ≡ q
      → kind_version (kind_or kind (becomes kind Settle)) (settled_begin kind old (begin_stamp x)) end r
      ≡ one (record { begin = x; end = y; row = q })
  settled_version kind old end x y i r q waits begins ends same = rw (waits, begins, ends, same)

module _ {K R : Type 0} (number : K → ℕ) (σ : Store K R) (T : History R) (w : Whole number σ T) (tag : ℕ) (h : HotRow K R) where
  module _ (is : first (row_copied tag) σ.hot ≡ Some h) where
    abbrev own : ℕ
    own = number h.key

    abbrev after : Store K R
    after = (settle_row number σ tag (Some h)).after

    place : Spot (row_copied tag) σ.hot h
    place = spot (row_copied tag) σ.hot h is

    mark_is : h.mark ≡ Copied tag
    mark_is = copied_is h.mark tag place.passes

    was_mover : (k t : ℕ) → mover number k t h ≡ same_pair own tag k t
    was_mover k t = ap (λ m. eqb own k && bears m t) mark_is

    few : length (kept (mover number own tag) σ.hot) ≤ 1
    few = few_movers _ _ _ _ (w.sound.cells own tag)

    mover_gone : kept (mover number own tag) after.hot ≡ []
    mover_gone = edit_here (mover number) own tag place was_mover few (λ x. []) ∙ nothing_inside (mover number own tag)

    movers_elsewhere : SameElsewhere (mover number) σ.hot after.hot own tag
    movers_elsewhere = edit_elsewhere (mover number) own tag place was_mover (λ x. []) (λ k t other. nothing_inside (mover number k t))

    its_cell : UnderMove h (kept (is_for number own tag) σ.memo) (kept (is_of own tag) σ.cold)
    its_cell = under_move _ _ _ _ h (w.sound.cells own tag) (only_one (mover number) own tag place was_mover few)

    held : (c : Entry R) × (kept (is_of own tag) σ.cold ≡ one c) × (c.row ≡ h.row)
    held = subst (λ m. Held m h.row (kept (is_of own tag) σ.cold)) mark_is its_cell.held

    abbrev entry : Entry R
    entry = held.0

    -- the notice, before and after
    abbrev pending : Notice K
    pending = its_cell.note

    abbrev settled : Notice K
    settled = settle_notice (begin_stamp h.begin) pending

    note_place : Spot (is_for number own tag) σ.memo pending
    note_place = spot (is_for number own tag) σ.memo pending (first_of_one _ σ.memo pending its_cell.notes)

    note_is : (k t : ℕ) → is_for number k t pending ≡ same_pair own tag k t
    note_is k t =
        let p = and_parts _ _ note_place.passes in
        ap (λ z. eqb z k && eqb pending.tag t) (eqb-true _ _ p.0) ∙ ap (λ z. eqb own k && eqb z t) (eqb-true _ _ p.1)

    note_here : kept (is_for number own tag) after.memo ≡ one settled
    note_here =
        edit_here (is_for number) own tag note_place note_is (few_notes _ _ _ _ (w.sound.cells own tag)) _
        ∙ kept_hit (is_for number own tag) settled (note_is own tag ∙ pair_self own tag)

    notes_elsewhere : Elsewhere number σ.memo after.memo own tag
    notes_elsewhere =
        edit_elsewhere (is_for number) own tag note_place note_is _ (λ k t other. kept_miss (is_for number k t) settled (note_is k t ∙ other))

    cell_here : Cell (horizon_of σ) (kept (is_for number own tag) after.memo) (kept (is_of own tag) σ.cold)
        (kept (mover number own tag) after.hot)
    cell_here = c_begun settled entry note_here (rw its_cell.waits.kind) its_cell.waits.end held.1 mover_gone

    -- the entry's version: none before, the row's after
    cut : (k : ℕ) → Split number σ.memo after.memo σ.cold own tag k entry
    cut k = split number σ.memo after.memo σ.cold own tag k entry notes_elsewhere held.1

    was_hidden : (k : ℕ) → cold_version number σ.memo k entry ≡ []
    was_hidden k =
        version_at number σ.memo (Some pending) own tag k entry (cut k).its (first_of_one _ σ.memo pending its_cell.notes)
        ∙ cond_nil (eqb entry.number k) _ (rw its_cell.waits.kind refl)

    now_shown : (k : ℕ) → cold_version number after.memo k entry ≡ hot_version number k h
    now_shown k =
        let number_is : entry.number ≡ own = eqb-true _ _ (and_parts (eqb entry.number own) _ (cut k).its).0 in
        let version : entry_version (Some settled) entry.row ≡ one (record { begin = h.begin; end = h.end; row = h.row }) =
        settled_version pending.kind pending.begin pending.end h.begin h.end its_cell.stamp entry.row h.row
        its_cell.waits.kind its_cell.begins its_cell.ends held.2 in
        version_at number after.memo (Some settled) own tag k entry (cut k).its (first_of_one _ after.memo settled note_here)
        ∙ (ap (λ z. cond (eqb entry.number k) z []) version
        ∙ (cond_one (eqb entry.number k) _ ∙ ap (λ z. one_if (eqb z k) (record { begin = h.begin; end = h.end; row = h.row })) number_is))

    -- the row's version changes its place in the list
    abbrev between : ℕ → List (Version R)
    between k = hot_part number place.post k ++ (cut k).front

    versions_before : (k : ℕ)
        → versions number σ k ≡ hot_part number place.pre k ++ (hot_version number k h ++ (between k ++ (cut k).back))
    versions_before k =
        let hot = each_is place (hot_version number k) in
        let cold = (cut k).was ∙ ap (λ z. (cut k).front ++ (z ++ (cut k).back)) (was_hidden k) in
        rw (hot, cold) (simp append_assoc)

    versions_after : (k : ℕ)
        → versions number after k ≡ hot_part number place.pre k ++ (between k ++ (hot_version number k h ++ (cut k).back))
    versions_after k =
        let hot = each_out place (hot_version number k) (λ x. []) refl in
        let cold = (cut k).now ∙ ap (λ z. (cut k).front ++ (z ++ (cut k).back)) (now_shown k) in
        rw (hot, cold) (simp append_assoc)

    pub whole_settle : Whole number (settle_row number σ tag (Some h)).after T
    whole_settle =
        whole_with number σ T after.hot after.memo σ.cold σ.admits σ.last_tag w w.tags
        (sound_but number w.sound own tag pending its_cell.notes cell_here notes_elsewhere (λ k t other. refl) movers_elsewhere
        w.sound.known)
        (λ k. rw (versions_after k)
        (rel_swap (hot_part number place.pre k) (hot_version number k h) (between k) (cut k).back
        (rw (versions_before k) at (w.rel k))))
