-- Ending a cold entry that a session sees: its notice is turned, or a new one is added, with the session's mark as the end.
use Rattle.std.proofs.Common.{◌≡◌, ℕ, Bool, true, false, cond, ◌&&◌, eqb, List, [], ◌∷◌, ◌++◌, Some, None, sym, refl, ap, ◌∙◌, inl, inr, append_assoc, append-nil}
use Rattle.std.proofs.lemmas.Bool.{cases_Bool, eqb-true, eq-eqb, ne_eqb, and_parts}
use Rattle.rules.specs.declared.times.Moment.TheVariants as moment
use Rattle.rules.specs.declared.tables.Kind.{Kind}
use Rattle.rules.specs.declared.tables.Kind.TheVariants.{N, B, E, BE, X}
use Rattle.rules.specs.declared.tables.Notice.{Notice}
use Rattle.rules.specs.declared.notices.NoticeEvent.TheVariants.{Ending}
use Rattle.cold.specs.Cold.{Entry, is_of}
use Rattle.rules.specs.Looking.{is_for, notice_for, noted_sees, cold_sees}
use Rattle.rules.specs.Notices.{becomes, kind_sees}
use Rattle.rules.specs.Selling.{kind_or, end_notice, new_end, end_entry}
use Rattle.rules.specs.Stores.{Store, with_memo, horizon_of}
use Rattle.slots.specs.Lists.{first, at_first, kept, one, one_if}
use Rattle.slots.proofs.Folds.{Spot, spot, kept_append}
use Rattle.slots.proofs.Edits.{kept_one, kept_hit, kept_miss, kept_it, kept_there, first_of_none, first_of_one}
use Rattle.versions.specs.History.{History, turn_read}
use Rattle.versions.proofs.Versions.{Version, v_sees, writes_of}
use Rattle.cells.proofs.Cells.{Cell, mover, Sound, hot_part, cold_part, cold_version, versions, entry_version, kind_version}
use Rattle.cells.proofs.Cells.{c_empty, c_plain, c_idle, c_chosen, c_copied, c_begun, c_ended, c_both, c_emptied}
use Rattle.cells.proofs.Shapes.{same_pair, pair_self, every_pair, cell_eq, few_notes, few_entries}
use Rattle.cells.proofs.OneCell.{edit_elsewhere, edit_here}
use Rattle.cells.proofs.Splitting.{Elsewhere, Split, split}
use Rattle.cells.proofs.Walking.{entry_sees}
use Rattle.cells.proofs.Writes.{MayWrite, Freed, freed_by}

module _ {R : Type 0} where
  -- a version with the session's mark as its end
  abbrev marked : ℕ → Version R → Version R
  marked s v = record { begin = v.begin; end = Some (moment.Mark s); row = v.row }

-- the kind of a notice whose entry is ended
abbrev ended_kind : Kind → Kind
ended_kind kind = kind_or kind (becomes kind Ending)

module _ {K R : Type 0} (number : K → ℕ) {σ : Store K R} {T : History R} {s : ℕ} {key : K} (m : MayWrite number σ T s key)
    (unwritten : writes_of T.turn s (number key) ≡ None)
    (c : Entry R) (is : first (entry_sees number σ.memo s (turn_read (T.turn s)) (number key)) σ.cold ≡ Some c) where
  abbrev k : ℕ
  k = number key

  abbrev time : ℕ
  time = turn_read (T.turn s)

  -- the shape of a cell with the given notices
  abbrev Shape : ℕ → ℕ → List (Notice K) → Type 0
  Shape i j ns = Cell (horizon_of σ) ns (kept (is_of i j) σ.cold) (kept (mover number i j) σ.hot)

  cells : (i j : ℕ) → Shape i j (kept (is_for number i j) σ.memo)
  cells = m.whole.sound.cells

  abbrev tag : ℕ
  tag = c.tag

  -- the notices of the entry's cell
  abbrev its : Notice K → Bool
  its = is_for number k tag

  abbrev memo : List (Notice K)
  memo = end_entry number (notice_for number σ.memo k tag) σ.memo s key tag

  at : Spot (entry_sees number σ.memo s time k) σ.cold c
  at = spot (entry_sees number σ.memo s time k) σ.cold c is

  of_key : c.number ≡ k
  of_key = eqb-true _ _ (and_parts (eqb c.number k) (cold_sees number σ.memo s time c) at.passes).0

  seen : noted_sees (notice_for number σ.memo k tag) s time ≡ true
  seen =
      ap (λ z. noted_sees (notice_for number σ.memo z tag) s time) (sym of_key)
      ∙ (and_parts (eqb c.number k) (cold_sees number σ.memo s time c) at.passes).1

  one_entry : kept (is_of k tag) σ.cold ≡ one c
  one_entry = kept_it at (is_of k tag) (rw of_key (pair_self k tag)) (few_entries _ _ _ _ (cells k tag))

  -- what its cell becomes: the entry's version is marked, and the notices of other cells stay
  record Ended : Type 0 where
    pub v : Version R
    pub was : entry_version (notice_for number σ.memo k tag) c.row ≡ one v
    pub now : entry_version (notice_for number memo k tag) c.row ≡ one (marked s v)
    pub sees : v_sees s time v ≡ true
    pub calm : Elsewhere number σ.memo memo k tag
    pub cell : Shape k tag (kept its memo)

  -- without a notice, an E notice is added
  added : (i j : ℕ) (t : Bool) → same_pair k tag i j ≡ t
      → kept (is_for number i j) (σ.memo ++ one (new_end s key tag)) ≡ kept (is_for number i j) σ.memo ++ one_if t (new_end s key tag)
  added i j t p =
      kept_append (is_for number i j) σ.memo (one (new_end s key tag))
      ∙ ap (λ z. kept (is_for number i j) σ.memo ++ z)
      (kept_one (is_for number i j) (new_end s key tag) ∙ ap (λ z. one_if z (new_end s key tag)) p)

  by_none : kept its σ.memo ≡ [] → kept (mover number k tag) σ.hot ≡ [] → Ended
  by_none p z =
      let no : notice_for number σ.memo k tag ≡ None = first_of_none its σ.memo p in
      let more : memo ≡ σ.memo ++ one (new_end s key tag) = ap (λ o. end_entry number o σ.memo s key tag) no in
      let here : kept its memo ≡ one (new_end s key tag) =
      ap (kept its) more ∙ (added k tag true (pair_self k tag) ∙ ap (λ u. u ++ one (new_end s key tag)) p) in
      record {
        v = record { begin = moment.Stamp 1; end = None; row = c.row };
        was = ap (λ o. entry_version o c.row) no;
        now = ap (λ o. entry_version o c.row) (first_of_one its memo (new_end s key tag) here);
        sees = ap (λ o. noted_sees o s time) (sym no) ∙ seen;
        calm = λ i j q. ap (kept (is_for number i j)) more ∙ (added i j false q ∙ append-nil _);
        cell = c_ended (new_end s key tag) c here refl refl one_entry z refl;
      }

  -- with one, the notice is turned
  module _ (n : Notice K) (p : kept its σ.memo ≡ one n) where
    found : notice_for number σ.memo k tag ≡ Some n
    found = first_of_one its σ.memo n p

    turned : memo ≡ at_first its (λ x. one (end_notice s x)) σ.memo
    turned = ap (λ o. end_entry number o σ.memo s key tag) found

    place : Spot its σ.memo n
    place = spot its σ.memo n found

    of_cell : (i j : ℕ) → is_for number i j n ≡ same_pair k tag i j
    of_cell i j =
        let q = and_parts (eqb (number n.key) k) (eqb n.tag tag) place.passes in
        ap (λ z. eqb z i && eqb n.tag j) (eqb-true _ _ q.0) ∙ ap (λ z. eqb k i && eqb z j) (eqb-true _ _ q.1)

    here : kept its memo ≡ one (end_notice s n)
    here =
        ap (kept its) turned
        ∙ (edit_here (is_for number) k tag place of_cell (few_notes _ _ _ _ (cells k tag)) (λ x. one (end_notice s x))
        ∙ kept_hit its (end_notice s n) (of_cell k tag ∙ pair_self k tag))

    by_some : (kind : Kind) → n.kind ≡ kind → (v : Version R) → kind_version kind n.begin n.end c.row ≡ one v
        → kind_version (ended_kind kind) n.begin (Some (moment.Mark s)) c.row ≡ one (marked s v) → v_sees s time v ≡ true
        → Shape k tag (one (end_notice s n)) → Ended
    by_some kind q v was now sees cell = record {
      v = v;
      was = ap (λ o. entry_version o c.row) found ∙ (ap (λ u. kind_version u n.begin n.end c.row) q ∙ was);
      now = ap (λ o. entry_version o c.row) (first_of_one its memo (end_notice s n) here)
          ∙ (ap (λ u. kind_version (ended_kind u) n.begin (Some (moment.Mark s)) c.row) q ∙ now);
      sees = sees;
      calm = λ i j o.
          ap (kept (is_for number i j)) turned
          ∙ edit_elsewhere (is_for number) k tag place of_cell (λ x. one (end_notice s x))
          (λ i j o. kept_miss (is_for number i j) (end_notice s n) (of_cell i j ∙ o)) i j o;
      cell = cell_eq here refl refl cell;
    }

    sees_kind : (kind : Kind) → n.kind ≡ kind → kind_sees kind n.begin n.end s time ≡ true
    sees_kind kind q =
        ap (λ u. kind_sees u n.begin n.end s time) (sym q) ∙ (ap (λ o. noted_sees o s time) (sym found) ∙ seen)

    -- an entry under an N or X notice is not seen
    hidden : (kind : Kind) → n.kind ≡ kind → kind_sees kind n.begin n.end s time ≡ false → Ended
    hidden kind q h = absurd (let g = sees_kind kind q in cc)

  ended_cell : Shape k tag (kept its σ.memo) → Ended
  ended_cell (c_empty p q z) = by_none p z
  ended_cell (c_plain d p q z) = by_none p z
  ended_cell (c_idle n p q u z) = hidden n p N q.kind refl
  ended_cell (c_chosen n h i p q u z t a d y) = hidden n p N q.kind refl
  ended_cell (c_copied n h i d p q u z t a f y g) = hidden n p N q.kind refl
  ended_cell (c_begun n d p q u f z) =
      by_some n p B q (record { begin = moment.Stamp n.begin; end = None; row = c.row }) refl refl (sees_kind n p B q)
      (c_both (end_notice s n) c refl (ap ended_kind q) one_entry z refl)
  ended_cell (c_ended n d p q u f z ne) =
      by_some n p E q (record { begin = moment.Stamp 1; end = n.end; row = c.row }) refl refl (sees_kind n p E q)
      (c_ended (end_notice s n) c refl (ap ended_kind q) u one_entry z refl)
  ended_cell (c_both n d p q f z ne) =
      by_some n p BE q (record { begin = moment.Stamp n.begin; end = n.end; row = c.row }) refl refl (sees_kind n p BE q)
      (c_both (end_notice s n) c refl (ap ended_kind q) one_entry z refl)
  ended_cell (c_emptied n p q u v f z) = hidden n p X q refl

  ended : Ended
  ended = ended_cell (cells k tag)

  -- the cold versions of a key around the entry
  cut : (j : ℕ) → Split number σ.memo memo σ.cold k tag j c
  cut j = split number σ.memo memo σ.cold k tag j c ended.calm one_entry

  its_version : (memo : List (Notice K)) (v : Version R)
      → entry_version (notice_for number memo k tag) c.row ≡ one v → cold_version number memo k c ≡ one v
  its_version memo v h =
      ap (λ t. cond t (entry_version (notice_for number memo c.number tag) c.row) []) (eq-eqb _ _ of_key)
      ∙ (ap (λ u. entry_version (notice_for number memo u tag) c.row) of_key ∙ h)

  no_version : (memo : List (Notice K)) (j : ℕ) → (j ≡ k → ⊥) → cold_version number memo j c ≡ []
  no_version memo j ne =
      ap (λ t. cond t (entry_version (notice_for number memo c.number tag) c.row) [])
      (ap (λ z. eqb z j) of_key ∙ ne_eqb k j (λ z. ne (sym z)))

  abbrev hot : ℕ → List (Version R)
  hot j = hot_part number σ.hot j

  joined : (xs : List (Version R)) (v : Version R) → xs ≡ (cut k).front ++ (one v ++ (cut k).back)
      → hot k ++ xs ≡ (hot k ++ (cut k).front) ++ (v ∷ (cut k).back)
  joined xs v e = ap (λ z. hot k ++ z) e ∙ sym (append_assoc (hot k) (cut k).front (v ∷ (cut k).back))

  was : versions number σ k ≡ (hot k ++ (cut k).front) ++ (ended.v ∷ (cut k).back)
  was =
      let its = its_version σ.memo ended.v ended.was in
      joined _ ended.v ((cut k).was ∙ ap (λ z. (cut k).front ++ (z ++ (cut k).back)) its)

  now : hot k ++ cold_part number memo σ.cold k ≡ (hot k ++ (cut k).front) ++ (marked s ended.v ∷ (cut k).back)
  now =
      let its = its_version memo (marked s ended.v) ended.now in
      joined _ (marked s ended.v) ((cut k).now ∙ ap (λ z. (cut k).front ++ (z ++ (cut k).back)) its)

  others : (j : ℕ) → (j ≡ k → ⊥) → hot j ++ cold_part number memo σ.cold j ≡ versions number σ j
  others j ne =
      let same = no_version memo j ne ∙ sym (no_version σ.memo j ne) in
      ap (λ z. hot j ++ z) ((cut j).now ∙ (ap (λ z. (cut j).front ++ (z ++ (cut j).back)) same ∙ sym (cut j).was))

  sound : Sound number (horizon_of σ) σ.last_tag σ.admits σ.hot memo σ.cold
  sound = record {
    cells = every_pair k tag (λ i j. Shape i j (kept (is_for number i j) memo)) ended.cell
        (λ i j p. cell_eq (ended.calm i j p) refl refl (cells i j));
    unused = λ i j lt.
        let u = m.whole.sound.unused i j lt in (
          elim (cases_Bool (same_pair k tag i j)) [
            | inl p ↦ kept_there at (is_of i j) _ (rw of_key p) u.1
            | inr p ↦ ended.calm i j p ∙ u.0
          ],
          u.1,
        );
    known = m.whole.sound.known;
  }

  pub freed_cold : Freed number T s key (with_memo σ memo) (Some None)
  freed_cold = freed_by number m σ.hot memo (hot k ++ (cut k).front) ended.v (cut k).back was now ended.sees unwritten sound others
