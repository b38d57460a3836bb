-- A new row of a key: where the session sees nothing of the key and has begun no version of it, its put adds one.
use Rattle.std.proofs.Common.{◌≡◌, ℕ, false, eqb, List, [], ◌++◌, Some, sym, refl, ap, ◌∙◌, subst, append_assoc, append-nil, None}
use Rattle.std.proofs.lemmas.Bool.{eq-eqb, ne_eqb, and_right}
use Rattle.rules.specs.declared.times.Moment.TheVariants as moment
use Rattle.rules.specs.declared.tables.HotRow.{HotRow}
use Rattle.rules.specs.Selling.{hot_own, new_row, push_hot}
use Rattle.rules.specs.Stores.{Store, horizon_of}
use Rattle.rules.specs.Times.{begin_marked}
use Rattle.slots.specs.Lists.{any, kept, one, each, one_if}
use Rattle.slots.proofs.Folds.{all_every, each_append, kept_append, all_none}
use Rattle.slots.proofs.Edits.{kept_miss}
use Rattle.versions.specs.History.{History, turn_read, puts}
use Rattle.versions.proofs.Versions.{Version, v_sees, v_begun, rows, Rel}
use Rattle.versions.proofs.Rows.{rows_none}
use Rattle.versions.proofs.Swapping.{rel_swap}
use Rattle.versions.proofs.Edits.{rel_add}
use Rattle.cells.proofs.Cells.{mover, Whole, hot_version, hot_part, cold_part, versions}
use Rattle.cells.proofs.Shapes.{cell_eq}
use Rattle.cells.proofs.Telling.{FailsParts, tells_versions}
use Rattle.cells.proofs.Writes.{MayWrite, written, whole_write, ready}

-- no notice, and so no cold version, begins with a mark
begun_parts : (s : ℕ) → FailsParts (λ x y. begin_marked x s)
begun_parts s = record { plain = refl; opens = λ x y free. refl; ones = λ x y free. refl }

module _ {K R : Type 0} (number : K → ℕ) where
  -- where the session has no own row, no version is begun by it
  pub unbegun : (σ : Store K R) (s k : ℕ) → any (hot_own number s k) σ.hot ≡ false → rows (v_begun s) (versions number σ k) ≡ []
  unbegun σ s k none =
      let notices = all_none _ σ.memo (all_every _ σ.memo (λ n. and_right (eqb (number n.key) k) false refl)) in
      rows_none (v_begun s) (versions number σ k) (tells_versions number σ k (λ x y. begin_marked x s) (begun_parts s) notices none)

  -- a new row of a key of which the session sees nothing and has begun nothing
  module _ {σ : Store K R} {T : History R} {s : ℕ} {key : K} (m : MayWrite number σ T s key) (row : R)
      (unseen : rows (v_sees s (turn_read (T.turn s))) (versions number σ (number key)) ≡ [])
      (none : rows (v_begun s) (versions number σ (number key)) ≡ []) where
    abbrev new : HotRow K R
    new = new_row s key row

    abbrev its : Version R
    its = record { begin = moment.Mark s; end = None; row = row }

    abbrev hot : ℕ → List (Version R)
    hot j = hot_part number σ.hot j

    abbrev cold : ℕ → List (Version R)
    cold j = cold_part number σ.memo σ.cold j

    abbrev Related : List (Version R) → Type 0
    Related V = Rel (horizon_of σ) T.commits (puts T s (number key) row).turn (number key) V

    more : (j : ℕ) → hot_part number (σ.hot ++ one new) j ≡ hot j ++ (one_if (eqb (number key) j) its ++ [])
    unfolding each
    more j = each_append (hot_version number j) σ.hot (one new)

    -- the new version stands before the cold ones
    related : Related ((hot (number key) ++ one its) ++ cold (number key))
    related =
        let k : ℕ = number key in
        let last : Related ((hot k ++ cold k) ++ one its) =
        rel_add (ready number m) unseen row (written number m (Some (Some row))) none in
        let swapped : Related (hot k ++ (one its ++ (cold k ++ []))) =
        rel_swap (hot k) (cold k) (one its) []
        (subst Related (append_assoc (hot k) (cold k) (one its)) last) in
        subst Related (ap (λ z. hot k ++ (one its ++ z)) (append-nil (cold k)) ∙ sym (append_assoc (hot k) (one its) (cold k))) swapped

    pub whole_add : Whole number (push_hot σ new) (puts T s (number key) row)
    whole_add =
        whole_write number m (Some (Some row)) (λ h. absurd cc) _ _
        (record {
          cells = λ j tag.
              let unmoved : kept (mover number j tag) (one new) ≡ [] =
              kept_miss (mover number j tag) new (and_right (eqb (number key) j) false refl) in
              cell_eq refl refl
              (kept_append (mover number j tag) σ.hot (one new)
              ∙ (ap (λ z. kept (mover number j tag) σ.hot ++ z) unmoved ∙ append-nil _))
              (m.whole.sound.cells j tag);
          unused = m.whole.sound.unused;
          known = m.whole.sound.known;
        })
        (rw (more (number key), eq-eqb (number key) (number key) refl) related)
        (λ j ne. rw (more j, ne_eqb (number key) j (λ z. ne (sym z)), append-nil (hot j)) refl)
