-- Sweep keeps the relation: no reader at or above the horizon can tell the entry's version from what is left of it.
use Rattle.std.proofs.Common.{◌≡◌, ℕ, ◌≤◌, Bool, true, false, cond, not, eqb, List, [], ◌∷◌, length, Some, None, Option, sym, refl, ap, ◌∙◌, subst, inl, inr, arith}
use Rattle.std.specs.List.{AllByRecursion as All}
use Rattle.std.proofs.ByRecursion.{all_kept_by}
use Rattle.std.proofs.lemmas.Bool.{cases_Bool, leb-true, and_parts}
use Rattle.rules.specs.declared.times.Moment.{Moment}
use Rattle.rules.specs.declared.tables.Kind.{Kind}
use Rattle.rules.specs.declared.tables.Notice.{Notice}
use Rattle.rules.specs.declared.times.Moment.TheVariants as moment
use Rattle.rules.specs.declared.tables.Kind.TheVariants.{N, B, E, BE, X}
use Rattle.rules.specs.declared.notices.NoticeEvent.TheVariants.{Empty}
use Rattle.cold.specs.Cold.{Entry, is_of, removed_after}
use Rattle.rules.specs.Looking.{is_for}
use Rattle.rules.specs.Moving.{row_bears, due, with_kind, sweep_kind}
use Rattle.rules.specs.Notices.{becomes, due_kind}
use Rattle.rules.specs.Stores.{Store, with_memo, with_cold, horizon_of}
use Rattle.rules.specs.Times.{end_past}
use Rattle.slots.specs.Lists.{first, any, at_first, each, kept, one}
use Rattle.slots.proofs.Folds.{none_all, all_then, all_every, all_back, each_same, Spot, spot}
use Rattle.slots.proofs.Edits.{kept_passes, kept_none, none_kept, kept_hit, kept_miss, first_of_none, first_of_one}
use Rattle.versions.specs.History.{History}
use Rattle.versions.proofs.Versions.{Version, Shaped, VShaped}
use Rattle.versions.proofs.Fewer.{Fewer, none, sunk, fewer_all, fewer_append, fewer_past, rel_fewer}
use Rattle.cells.proofs.Horizons.{horizon_start}
use Rattle.cells.proofs.Cells.{Cell, QuietEnd, mover, hot_part, cold_version, cold_part, kind_version, entry_version, Whole}
use Rattle.cells.proofs.Cells.{c_empty, c_plain, c_idle, c_chosen, c_copied, c_begun, c_ended, c_both, c_emptied}
use Rattle.cells.proofs.Found.{all_parts}
use Rattle.cells.proofs.Shapes.{same_pair, pair_self, cell_eq, few_notes, none_and_one}
use Rattle.cells.proofs.OneCell.{SameElsewhere, only_one, edit_here, edit_elsewhere, nothing_inside, sound_but, whole_with}
use Rattle.cells.proofs.Entries.{removed_here, removed_elsewhere, any_removed, each_removed}
use Rattle.cells.proofs.Splitting.{Elsewhere, elsewhere_version, cold_calm, version_at, cond_nil}

-- an end that is past is quiet, and no begin is above it
past_quiet : (h : ℕ) (y : Option Moment) → end_past y h ≡ true → QuietEnd h y
past_quiet h None p = tt
past_quiet h (Some (moment.Stamp m)) p = leb-true m h p
past_quiet h (Some (moment.Mark m)) p = absurd cc

past_low : (h x : ℕ) (y : Option Moment) → end_past y h ≡ true → Shaped (moment.Stamp x) y → x ≤ h
past_low h x None p s = absurd cc
past_low h x (Some (moment.Stamp m)) p s = omega (arith, leb-true m h p)
past_low h x (Some (moment.Mark m)) p s = absurd cc

all_kept : {X : Type 0} (P : X → Type 0) (p : X → Bool) (xs : List X) → All P xs → All P (kept p xs)
unfolding kept
all_kept P p xs a = all_kept_by p P xs a

module _ {R : Type 0} where
  fewer_each : {X : Type 0} (h : ℕ) (f g : X → List (Version R)) (xs : List X)
      → All (λ x. Fewer h (f x) (g x)) xs → Fewer h (each f xs) (each g xs)
  unfolding each
  fewer_each h f g [] a = none
  fewer_each h f g (x ∷ xs) a = fewer_append h a.0 (fewer_each h f g xs a.1)

  fewer_if : (h : ℕ) (t : Bool) (xs ys : List (Version R))
      → (All VShaped xs → Fewer h xs ys) → All VShaped (cond t xs []) → Fewer h (cond t xs []) (cond t ys [])
  fewer_if h true xs ys f a = f a
  fewer_if h false xs ys f a = none

module _ {K R : Type 0} (number : K → ℕ) (σ : Store K R) (T : History R) (w : Whole number σ T) (n : Notice K) where
  module _ (is : first (due σ) σ.memo ≡ Some n) where
    abbrev h : ℕ
    h = horizon_of σ

    abbrev own : ℕ
    own = number n.key

    abbrev tag : ℕ
    tag = n.tag

    abbrev edited : (Notice K → List (Notice K)) → List (Notice K)
    edited f = at_first (due σ) f σ.memo

    place : Spot (due σ) σ.memo n
    place = spot (due σ) σ.memo n is

    due_as : (kind : Kind) → n.kind ≡ kind → due_kind kind n.begin n.end h (any (row_bears tag) σ.hot) ≡ true
    due_as kind k = subst (λ z. due_kind z n.begin n.end h (any (row_bears tag) σ.hot) ≡ true) k place.passes

    -- the due notice is the one of its cell
    few : length (kept (is_for number own tag) σ.memo) ≤ 1
    few = few_notes _ _ _ _ (w.sound.cells own tag)

    lone : kept (is_for number own tag) σ.memo ≡ one n
    lone = only_one (is_for number) own tag place (λ k t. refl) few

    first_lone : first (is_for number own tag) σ.memo ≡ Some n
    first_lone = first_of_one _ σ.memo n lone

    shaped_entries : (k : ℕ) → All (λ c. All VShaped (cold_version number σ.memo k c)) σ.cold
    shaped_entries k =
        all_parts VShaped (cold_version number σ.memo k) σ.cold (all_back VShaped (hot_part number σ.hot k) _ (w.rel k).shaped)

    -- an edit of it that leaves a notice of its cell, or none
    module _ (f : Notice K → List (Notice K)) (inside : (k t : ℕ) → same_pair own tag k t ≡ false → kept (is_for number k t) (f n) ≡ []) where
      notes_here : kept (is_for number own tag) (edited f) ≡ kept (is_for number own tag) (f n)
      notes_here = edit_here (is_for number) own tag place (λ k t. refl) few f

      notes_elsewhere : Elsewhere number σ.memo (edited f) own tag
      notes_elsewhere = edit_elsewhere (is_for number) own tag place (λ k t. refl) f inside

      -- no reader tells the cold versions apart where none tells those of the cell apart
      fewer_cold : (o : Option (Notice K)) → first (is_for number own tag) (edited f) ≡ o
          → ((r : R) → All VShaped (entry_version (Some n) r) → Fewer h (entry_version (Some n) r) (entry_version o r))
          → (k : ℕ) → Fewer h (cold_part number σ.memo σ.cold k) (cold_part number (edited f) σ.cold k)
      fewer_cold o now fades k =
          fewer_each h _ _ σ.cold (all_then _ _ σ.cold (shaped_entries k) fewer)
        where
          fewer : (c : Entry R) → All VShaped (cold_version number σ.memo k c)
              → Fewer h (cold_version number σ.memo k c) (cold_version number (edited f) k c)
          fewer c shaped = elim (cases_Bool (is_of own tag c)) [
            | inl its ↦
                let was = version_at number σ.memo (Some n) own tag k c its first_lone in
                rw (was, version_at number (edited f) o own tag k c its now)
                (fewer_if h (eqb c.number k) _ _ (fades c.row) (rw was at shaped))
            | inr other ↦ rw (elsewhere_version number σ.memo (edited f) own tag k notes_elsewhere c other) (fewer_all h _)
          ]

      -- the cold list stays, or loses the entry of the cell
      whole_edited : (cold : List (Entry R))
          → Cell h (kept (is_for number own tag) (f n)) (kept (is_of own tag) cold) (kept (mover number own tag) σ.hot)
          → SameElsewhere is_of σ.cold cold own tag
          → ((k : ℕ) → any (λ c. eqb c.number k) cold ≡ true → any (λ c. eqb c.number k) σ.cold ≡ true)
          → ((k : ℕ) → Fewer h (cold_part number σ.memo σ.cold k) (cold_part number (edited f) cold k))
          → Whole number (with_cold (with_memo σ (edited f)) cold) T
      whole_edited cold cell others within fewer =
          whole_with number σ T σ.hot (edited f) cold σ.admits σ.last_tag w w.tags
          (sound_but number w.sound own tag n lone (cell_eq notes_here refl refl cell) notes_elsewhere others (λ k t other. refl)
          (λ k p. w.sound.known k (within k p)))
          (λ k. rel_fewer (w.tidy k)
          (fewer_append h (fewer_all h (hot_part number σ.hot k)) (fewer k)) (w.rel k))

    -- B and X: the notice is taken out
    none_inside : (k t : ℕ) → same_pair own tag k t ≡ false → kept (is_for number k t) [] ≡ []
    none_inside k t p = nothing_inside (is_for number k t)

    none_left : kept (is_for number own tag) [] ≡ []
    none_left = nothing_inside (is_for number own tag)

    whole_out : Cell h [] (kept (is_of own tag) σ.cold) (kept (mover number own tag) σ.hot)
        → ((k : ℕ) → Fewer h (cold_part number σ.memo σ.cold k) (cold_part number (edited (λ x. [])) σ.cold k))
        → Whole number (with_memo σ (edited (λ x. []))) T
    whole_out cell fewer =
        whole_edited (λ x. []) none_inside σ.cold (cell_eq none_left refl refl cell) (λ k t other. refl) (λ k p. p) fewer

    -- N, E and BE: the entry is removed, and the notice is emptied
    abbrev emptied : Notice K → List (Notice K)
    emptied x = one (with_kind X x)

    abbrev left : List (Entry R)
    left = removed_after σ.cold own tag

    emptied_inside : (k t : ℕ) → same_pair own tag k t ≡ false → kept (is_for number k t) (emptied n) ≡ []
    emptied_inside k t p = kept_miss (is_for number k t) (with_kind X n) p

    emptied_here : kept (is_for number own tag) (emptied n) ≡ emptied n
    emptied_here = kept_hit (is_for number own tag) (with_kind X n) (pair_self own tag)

    emptied_first : first (is_for number own tag) (edited emptied) ≡ Some (with_kind X n)
    emptied_first = first_of_one _ (edited emptied) (with_kind X n) (notes_here emptied emptied_inside ∙ emptied_here)

    -- an emptied notice hides its entry, so nothing more goes with the entry
    removed_part : (k : ℕ) → cold_part number (edited emptied) left k ≡ cold_part number (edited emptied) σ.cold k
    removed_part k =
        each_removed (cold_version number (edited emptied) k) σ.cold own tag ∙ each_same _ _ σ.cold (all_every _ σ.cold hidden)
      where
        hidden : (c : Entry R)
            → cond (not (is_of own tag c)) (cold_version number (edited emptied) k c) [] ≡ cold_version number (edited emptied) k c
        hidden c = elim (cases_Bool (is_of own tag c)) [
          | inl its ↦
              let none_shown = version_at number (edited emptied) (Some (with_kind X n)) own tag k c its emptied_first in
              rw its (sym (none_shown ∙ cond_nil (eqb c.number k) [] refl))
          | inr other ↦ rw other
        ]

    whole_emptied : n.begin ≤ h → QuietEnd h n.end → kept (mover number own tag) σ.hot ≡ []
        → ((r : R) → All VShaped (entry_version (Some n) r) → Fewer h (entry_version (Some n) r) [])
        → Whole number (with_cold (with_memo σ (edited emptied)) left) T
    whole_emptied low quiet unborne fades =
        whole_edited emptied emptied_inside left
        (c_emptied (with_kind X n) emptied_here refl low quiet (removed_here σ.cold own tag) unborne)
        (removed_elsewhere σ.cold own tag)
        (λ k p. any_removed (λ c. eqb c.number k) σ.cold own tag p)
        (λ k. rw (removed_part k) (fewer_cold emptied emptied_inside (Some (with_kind X n)) emptied_first fades k))

    -- what the kind of the notice says
    start : 1 ≤ h
    start = horizon_start σ.clock σ.sessions w.started w.early

    -- a pending notice is due where no row bears its tag
    unborne : n.kind ≡ N → kept (mover number own tag) σ.hot ≡ []
    unborne kind =
        let no_row : any (row_bears tag) σ.hot ≡ false = not_true _ (due_as N kind) in
        kept_none _ σ.hot (all_then _ _ σ.hot (none_all _ σ.hot no_row) (λ x p. rw p (grind arith)))
      where
        not_true : (t : Bool) → not t ≡ true → t ≡ false
        not_true t p = grind arith

    -- the version of the one entry of the cell
    own_shape : (c : Entry R) → kept (is_of own tag) σ.cold ≡ one c → All VShaped (entry_version (Some n) c.row)
    own_shape c only =
        let its = (subst (λ xs. All (λ x. is_of own tag x ≡ true) xs) only (kept_passes (is_of own tag) σ.cold)).0 in
        let shaped = all_kept _ (is_of own tag) σ.cold (shaped_entries own) in
        let mine = (subst (λ xs. All (λ x. All VShaped (cold_version number σ.memo own x)) xs) only shaped).0 in
        let version = version_at number σ.memo (Some n) own tag own c its first_lone in
        subst (λ xs. All VShaped xs)
        (version ∙ ap (λ t. cond t (entry_version (Some n) c.row) []) (and_parts (eqb c.number own) (eqb c.tag tag) its).0) mine

    -- the rule's result, with the kind known
    by_kind : (kind : Kind) → n.kind ≡ kind → Whole number (sweep_kind number σ n (becomes kind Empty)).after T
        → Whole number (sweep_kind number σ n (becomes n.kind Empty)).after T
    by_kind kind k x = subst (λ z. Whole number (sweep_kind number σ n (becomes z Empty)).after T) (sym k) x

    fades_as : (kind : Kind) (ys : R → List (Version R)) → n.kind ≡ kind
        → ((r : R) → All VShaped (kind_version kind n.begin n.end r) → Fewer h (kind_version kind n.begin n.end r) (ys r))
        → (r : R) → All VShaped (entry_version (Some n) r) → Fewer h (entry_version (Some n) r) (ys r)
    fades_as kind ys k fades =
        subst (λ z. (r : R) → All VShaped (kind_version z n.begin n.end r) → Fewer h (kind_version z n.begin n.end r) (ys r))
        (sym k) fades

    pub whole_sweep : Whole number (sweep_kind number σ n (becomes n.kind Empty)).after T
    whole_sweep = go (w.sound.cells own tag)
      where
        go : Cell h (kept (is_for number own tag) σ.memo) (kept (is_of own tag) σ.cold) (kept (mover number own tag) σ.hot)
            → Whole number (sweep_kind number σ n (becomes n.kind Empty)).after T
        go (c_empty p q z) = none_and_one _ p lone
        go (c_plain c p q z) = none_and_one _ p lone
        go (c_idle m p q u z) =
            let s : m ≡ n = cc lone in
            let kind : n.kind ≡ N = cc q.kind in
            let low : n.begin ≤ h = rw (sym (ap (λ x. x.begin) s) ∙ q.begin) start in
            let quiet : QuietEnd h n.end = rw (sym (ap (λ x. x.end) s) ∙ q.end) tt in
            by_kind N kind (whole_emptied low quiet z (fades_as N (λ r. []) kind (λ r a. none)))
        go (c_chosen m x i p q u z t a d y) =
            let s : m ≡ n = cc lone in let kind : n.kind ≡ N = cc q.kind in none_and_one _ (unborne kind) z
        go (c_copied m x i c p q u z t a d y v) =
            let s : m ≡ n = cc lone in let kind : n.kind ≡ N = cc q.kind in none_and_one _ (unborne kind) z
        go (c_begun m c p q u x z) =
            let s : m ≡ n = cc lone in
            let kind : n.kind ≡ B = cc in
            by_kind B kind (whole_out (c_plain c refl x z)
            (fewer_cold (λ x. []) none_inside None (first_of_none _ _ (notes_here (λ x. []) none_inside ∙ none_left))
            (fades_as B _ kind (λ r a. sunk n.begin 1 r (leb-true _ _ (due_as B kind)) start none))))
        go (c_ended m c p q u x z ne) =
            let s : m ≡ n = cc lone in
            let kind : n.kind ≡ E = cc in
            let low : n.begin ≤ h = rw (sym (ap (λ x. x.begin) s) ∙ u) start in
            by_kind E kind (whole_emptied low (past_quiet h n.end (due_as E kind)) z
            (fades_as E (λ r. []) kind (λ r a. fewer_past h (moment.Stamp 1) n.end r a.0 (due_as E kind))))
        go (c_both m c p q x z ne) =
            let s : m ≡ n = cc lone in
            let kind : n.kind ≡ BE = cc in
            let shape = subst (λ k. All VShaped (kind_version k n.begin n.end c.row)) kind (own_shape c x) in
            let low = past_low h n.begin n.end (due_as BE kind) shape.0 in
            by_kind BE kind (whole_emptied low (past_quiet h n.end (due_as BE kind)) z
            (fades_as BE (λ r. []) kind (λ r a. fewer_past h (moment.Stamp n.begin) n.end r a.0 (due_as BE kind))))
        go (c_emptied m p q u v x z) =
            let s : m ≡ n = cc lone in
            let kind : n.kind ≡ X = cc in
            let others = none_kept _ σ.cold x in
            by_kind X kind (whole_out (c_empty refl x z) (λ k.
            rw (cold_calm number σ.memo _ σ.cold own tag k (notes_elsewhere (λ x. []) none_inside) others)
            (fewer_all h (cold_part number σ.memo σ.cold k))))
