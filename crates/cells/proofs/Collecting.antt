-- Collect takes out the hot rows whose end is past. No reader from the horizon on saw them, and no row on the move is
-- among them.
use Rattle.std.proofs.Common.{◌≡◌, ℕ, Bool, true, false, cond, not, eqb, List, [], ◌∷◌, refl, inl, inr}
use Rattle.std.specs.List.{AllByRecursion as All}
use Rattle.rules.specs.declared.tables.HotRow.{HotRow}
use Rattle.rules.specs.declared.tables.Notice.{Notice}
use Rattle.rules.specs.Moving.{row_stays}
use Rattle.rules.specs.Stores.{Store, with_hot, horizon_of}
use Rattle.rules.specs.Times.{end_past}
use Rattle.slots.specs.Lists.{kept, each, one_if}
use Rattle.slots.proofs.Folds.{all_front, all_back, each_kept}
use Rattle.slots.proofs.Edits.{kept_kept}
use Rattle.cold.specs.Cold.{Entry}
use Rattle.versions.specs.History.{History}
use Rattle.versions.proofs.Versions.{Version, VShaped}
use Rattle.versions.proofs.Fewer.{Fewer, none, fewer_all, fewer_append, fewer_past, rel_fewer}
use Rattle.cells.proofs.Cells.{Cell, row_version, mover, hot_version, hot_part, cold_part, Whole}
use Rattle.cells.proofs.OneCell.{whole_with}
use Rattle.cells.proofs.Shapes.{on_move}

module _ {K R : Type 0} where
  -- a row on the move stays
  movers_stay : (h : ℕ) (ns : List (Notice K)) (es : List (Entry R)) (ms : List (HotRow K R)) → Cell h ns es ms
      → All (λ m. row_stays h m ≡ true) ms
  movers_stay h ns es ms cell = elim (on_move h ns es ms cell) [
    | inl empty ↦ rw empty tt
    | inr lone ↦ rw lone.1 (rw lone.2 refl, tt)
  ]

-- the version of a row, if the row is of the key: it stays or goes
collect_one : {R : Type 0} (h : ℕ) (v : Version R) (past its : Bool) → end_past v.end h ≡ past → All VShaped (one_if its v)
    → Fewer h (one_if its v) (cond (not past) (one_if its v) [])
collect_one h v false its is shaped = fewer_all h (one_if its v)
collect_one h v true false is shaped = none
collect_one h v true true is shaped = fewer_past h v.begin v.end v.row shaped.0 is

module _ {K R : Type 0} (number : K → ℕ) (h k : ℕ) where
  collect_row : (x : HotRow K R) → All VShaped (hot_version number k x)
      → Fewer h (hot_version number k x) (cond (row_stays h x) (hot_version number k x) [])
  collect_row x shaped =
      collect_one h (row_version x) (end_past x.end h) (eqb (number x.key) k) refl shaped

  collect_rows : (hot : List (HotRow K R)) → All VShaped (hot_part number hot k)
      → Fewer h (hot_part number hot k) (each (λ x. cond (row_stays h x) (hot_version number k x) []) hot)
  unfolding each
  collect_rows [] shaped = none
  collect_rows (x ∷ hot) shaped =
      fewer_append h (collect_row x (all_front VShaped (hot_version number k x) _ shaped))
      (collect_rows hot (all_back VShaped (hot_version number k x) _ shaped))

  collect_hot : (hot : List (HotRow K R)) → All VShaped (hot_part number hot k)
      → Fewer h (hot_part number hot k) (hot_part number (kept (row_stays h) hot) k)
  collect_hot hot shaped = rw (each_kept (hot_version number k) (row_stays h) hot) (collect_rows hot shaped)

module _ {K R : Type 0} (number : K → ℕ) where
  pub whole_collect : (σ : Store K R) (T : History R) → Whole number σ T
      → Whole number (with_hot σ (kept (row_stays (horizon_of σ)) σ.hot)) T
  whole_collect σ T w =
      let h : ℕ = horizon_of σ in
      whole_with number σ T (kept (row_stays h) σ.hot) σ.memo σ.cold σ.admits σ.last_tag w w.tags
      (record {
        cells = λ k tag.
            let cell = w.sound.cells k tag in
            rw (kept_kept (mover number k tag) (row_stays h) σ.hot (movers_stay h _ _ _ cell)) cell;
        unused = w.sound.unused;
        known = w.sound.known;
      })
      (λ k.
      let hot = collect_hot number h k σ.hot (all_front VShaped (hot_part number σ.hot k) _ (w.rel k).shaped) in
      let cold = fewer_all h (cold_part number σ.memo σ.cold k) in
      rel_fewer (w.tidy k) (fewer_append h hot cold) (w.rel k))
