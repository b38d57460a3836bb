-- Abandon, and a commit without marks: rows that the session began go, and ends with its mark are open again.
use Rattle.std.proofs.Common.{◌≡◌, ℕ, ◌<◌, ◌≤◌, Bool, true, false, cond, eqb, List, [], ◌++◌, Some, None, Option, sym, refl, ap, ◌∙◌, subst, inl, inr, arith}
use Rattle.std.proofs.lemmas.Bool.{cases_Bool, or_parts}
use Rattle.rules.specs.declared.times.Moment.{Moment}
use Rattle.rules.specs.declared.tables.HotRow.{HotRow}
use Rattle.rules.specs.declared.tables.Kind.{Kind}
use Rattle.rules.specs.declared.tables.Kind.TheVariants.{B}
use Rattle.rules.specs.declared.tables.Notice.{Notice}
use Rattle.rules.specs.declared.notices.NoticeEvent.TheVariants.{Abandon}
use Rattle.cold.specs.Cold.{Entry}
use Rattle.rules.specs.Horizon.{horizon}
use Rattle.rules.specs.Looking.{is_for}
use Rattle.rules.specs.Notices.{becomes}
use Rattle.rules.specs.Selling.{hot_marked, notice_marked, has_marks, undo_row, unended, undo_notice, close, undone}
use Rattle.rules.specs.Stores.{Store, with_hot, with_memo, horizon_of}
use Rattle.rules.specs.Times.{begin_marked, end_marked, reopen}
use Rattle.slots.specs.Lists.{any, kept, one, each}
use Rattle.slots.proofs.Folds.{none_all, all_then, all_every, each_append, each_same, each_each}
use Rattle.slots.proofs.Edits.{head, first_kept}
use Rattle.versions.specs.History.{History, closes}
use Rattle.versions.proofs.Undoing.{undo_version, end_kept, rel_abandon, tidy_abandon}
use Rattle.cells.proofs.Horizons.{horizon_low, horizon_close}
use Rattle.cells.proofs.Maps.{each_cond, each_id, kept_each, kept_unless, each_unless}
use Rattle.cells.proofs.Cells.{Cell, quiet_unmarked, mover, hot_version, cold_version, hot_part, cold_part, versions, entry_version, Whole}
use Rattle.cells.proofs.Cells.{c_empty, c_plain, c_idle, c_chosen, c_copied, c_begun, c_ended, c_both, c_emptied}
use Rattle.cells.proofs.Rising.{quiet_rise}
use Rattle.cells.proofs.Sessions.{shut, shut_agree, shut_many, shut_early, shut_reads}

reopen_yes : (s : ℕ) (y : Option Moment) → end_marked y s ≡ true → reopen s y ≡ None
reopen_yes s None h = refl
reopen_yes s (Some x) h = rw h

module _ {K R : Type 0} where
  -- by the shape of a cell: the cell after, and the times that its notice then gives its entry
  undo_cell : (h g s : ℕ) {ns : List (Notice K)} {es : List (Entry R)} {ms : List (HotRow K R)} → h ≤ g → Cell h ns es ms
      → (Cell g (each (undo_notice s) ns) es (each (undo_row s) ms))
      × ((r : R) → entry_version (head (each (undo_notice s) ns)) r ≡ each (undo_version s) (entry_version (head ns) r))
  unfolding each head
  undo_cell h g s l (c_empty p q z) = (c_empty (rw p) q (rw z), λ r. rw p)
  undo_cell h g s l (c_plain d p q z) = (c_plain d (rw p) q (rw z), λ r. rw p)
  undo_cell h g s l (c_idle n p q u z) = (c_idle n (rw (p, q.end)) q u (rw z), λ r. rw (p, q.end, q.kind))
  undo_cell h g s l (c_chosen n m i p q u z t a x y) =
      (c_chosen n m i (rw (p, q.end)) q u (rw (z, x, y)) t a x y, λ r. rw (p, q.end, q.kind))
  undo_cell h g s l (c_copied n m i d p q u z t a x y v) =
      (c_copied n m i d (rw (p, q.end)) q u (rw (z, x, y)) t a x y v, λ r. rw (p, q.end, q.kind))
  undo_cell h g s l (c_begun n d p q u x z) = (c_begun n d (rw (p, u)) q u x (rw z), λ r. rw (p, u, q))
  undo_cell h g s l (c_ended n d p q u x z ne) = elim (cases_Bool (end_marked n.end s)) [
    | inl m ↦ (c_plain d (rw (p, m, q)) x (rw z), λ r. rw (p, m, q, reopen_yes s n.end m))
    | inr m ↦ (c_ended n d (rw (p, m)) q u x (rw z) ne, λ r. rw (p, m, q, end_kept s n.end m))
  ]
  undo_cell h g s l (c_both n d p q x z ne) = elim (cases_Bool (end_marked n.end s)) [
    | inl m ↦
        let begun : Notice K = record { key = n.key; tag = n.tag; kind = B; begin = n.begin; end = None } in
        (c_begun begun d (rw (p, m, q)) refl refl x (rw z), λ r. rw (p, m, q, reopen_yes s n.end m))
    | inr m ↦ (c_both n d (rw (p, m)) q x (rw z) ne, λ r. rw (p, m, q, end_kept s n.end m))
  ]
  undo_cell h g s l (c_emptied n p q u v x z) =
      let m = quiet_unmarked s h n.end v in
      (c_emptied n (rw (p, m)) q (omega arith) (quiet_rise h g n.end l v) x (rw z), λ r. rw (p, m, q))

  unmarked_row : (s : ℕ) (x : HotRow K R) → hot_marked s x ≡ false → undo_row s x ≡ one x
  unmarked_row s x h =
      let q = or_parts (begin_marked x.begin s) (end_marked x.end s) h in
      ap (λ t. cond t [] (one (record { key = x.key; row = x.row; begin = x.begin; end = reopen s x.end; mark = x.mark })))
      q.0
      ∙ ap (λ y. one (record { key = x.key; row = x.row; begin = x.begin; end = y; mark = x.mark }))
      (end_kept s x.end q.1)

-- what is left of a notice has its key and tag
undone_notice : {K : Type 0} (number : K → ℕ) (s k tag : ℕ) (n : Notice K)
    → kept (is_for number k tag) (undo_notice s n) ≡ cond (is_for number k tag n) (undo_notice s n) []
undone_notice number s k tag n = go (notice_marked s n) (becomes n.kind Abandon)
  where
    go : (t : Bool) (o : Option Kind)
        → kept (is_for number k tag) (cond t (unended n o) (one n)) ≡ cond (is_for number k tag n) (cond t (unended n o) (one n)) []
    go false o = kept_unless (is_for number k tag) false (is_for number k tag n) n refl
    go true None = kept_unless (is_for number k tag) true (is_for number k tag n) n refl
    go true (Some kind) = kept_unless (is_for number k tag) false (is_for number k tag n) _ refl

module _ {K R : Type 0} (number : K → ℕ) where
  module _ (σ : Store K R) (T : History R) (w : Whole number σ T) (s : ℕ) where
    undo_hot : (k : ℕ) (x : HotRow K R)
        → each (hot_version number k) (undo_row s x) ≡ each (undo_version s) (hot_version number k x)
    undo_hot k x =
        each_unless (hot_version number k) (undo_version s) (begin_marked x.begin s) (eqb (number x.key) k) _ _ _ refl refl

    kept_undo : (k tag : ℕ)
        → kept (is_for number k tag) (each (undo_notice s) σ.memo) ≡ each (undo_notice s) (kept (is_for number k tag) σ.memo)
    kept_undo k tag = kept_each (is_for number k tag) (undo_notice s) (undone_notice number s k tag) σ.memo

    kept_undo_hot : (k tag : ℕ)
        → kept (mover number k tag) (each (undo_row s) σ.hot) ≡ each (undo_row s) (kept (mover number k tag) σ.hot)
    kept_undo_hot k tag =
        kept_each (mover number k tag) (undo_row s)
        (λ x. kept_unless (mover number k tag) (begin_marked x.begin s) (mover number k tag x) _ refl) σ.hot

    undo_cold : (k : ℕ) (x : Entry R)
        → cold_version number (each (undo_notice s) σ.memo) k x ≡ each (undo_version s) (cold_version number σ.memo k x)
    undo_cold k x =
        let its : Notice K → Bool = is_for number x.number x.tag in
        ap (λ o. cond (eqb x.number k) (entry_version o x.row) [])
        (first_kept its (each (undo_notice s) σ.memo) ∙ ap head (kept_undo x.number x.tag))
        ∙ (ap (λ z. cond (eqb x.number k) z [])
        ((undo_cell (horizon_of σ) (horizon_of σ) s (omega arith) (w.sound.cells x.number x.tag)).1 x.row)
        ∙ (each_cond (undo_version s) (eqb x.number k) _
        ∙ ap (λ o. each (undo_version s) (cond (eqb x.number k) (entry_version o x.row) [])) (sym (first_kept its σ.memo))))

    undo_versions : (k : ℕ)
        → hot_part number (each (undo_row s) σ.hot) k ++ cold_part number (each (undo_notice s) σ.memo) σ.cold k
        ≡ each (undo_version s) (versions number σ k)
    undo_versions k =
        let a : hot_part number (each (undo_row s) σ.hot) k ≡ each (undo_version s) (hot_part number σ.hot k) =
        each_each (hot_version number k) (undo_row s) σ.hot
        ∙ (each_same _ _ σ.hot (all_every _ σ.hot (undo_hot k))
        ∙ sym (each_each (undo_version s) (hot_version number k) σ.hot)) in
        let d : cold_part number (each (undo_notice s) σ.memo) σ.cold k
        ≡ each (undo_version s) (cold_part number σ.memo σ.cold k) =
        each_same _ _ σ.cold (all_every _ σ.cold (undo_cold k))
        ∙ sym (each_each (undo_version s) (cold_version number σ.memo k) σ.cold) in
        rw (a, d) (sym (each_append (undo_version s) (hot_part number σ.hot k) (cold_part number σ.memo σ.cold k)))

  module _ (σ : Store K R) (T : History R) (w : Whole number σ T) (s : ℕ) (within : s < 64) where
    abbrev left : ℕ
    left = horizon σ.clock (shut number σ T w s within)

    pub whole_abandon : Whole number (close (undone σ s) s) (closes T s)
    unfolding each
    whole_abandon =
        let up : horizon_of σ ≤ left = horizon_close σ.clock σ.clock σ.sessions s w.early (omega arith) in
        let early = shut_early number σ T w s within σ.clock (omega arith) in
        record {
          clock = w.clock;
          many = shut_many number σ T w s within;
          agree = shut_agree number σ T w s within;
          early = early;
          started = w.started;
          tags = w.tags;
          sound = record {
            cells = λ k tag.
                rw (kept_undo σ T w s k tag, kept_undo_hot σ T w s k tag)
                (undo_cell (horizon_of σ) left s up (w.sound.cells k tag)).0;
            unused = λ k tag lt.
                let u = w.sound.unused k tag lt in (kept_undo σ T w s k tag ∙ ap (each (undo_notice s)) u.0, u.1);
            known = w.sound.known;
          };
          rel = λ k.
              rw (undo_versions σ T w s k)
              (rel_abandon (w.tidy k) s (w.rel k) up);
          tidy = λ k.
              tidy_abandon (w.tidy k) s (horizon_low σ.clock _ early)
              (λ u v h ne. shut_reads number σ T w s within σ.clock k u v h ne);
        }

    -- where the session has no mark, undoing changes nothing
    undone_same : has_marks σ s ≡ false → undone σ s ≡ σ
    undone_same h =
        let q = or_parts (any (hot_marked s) σ.hot) (any (notice_marked s) σ.memo) h in
        let a : each (undo_row s) σ.hot ≡ σ.hot =
        each_id (undo_row s) σ.hot (all_then _ _ σ.hot (none_all _ σ.hot q.0) (unmarked_row s)) in
        let d : each (undo_notice s) σ.memo ≡ σ.memo =
        each_id (undo_notice s) σ.memo (all_then _ _ σ.memo (none_all _ σ.memo q.1)
        (λ n e. ap (λ t. cond t (unended n (becomes n.kind Abandon)) (one n)) e)) in
        ap (λ z. with_memo (with_hot σ z) (each (undo_notice s) σ.memo)) a ∙ ap (λ z. with_memo σ z) d

    pub whole_unmarked : has_marks σ s ≡ false → Whole number (close σ s) (closes T s)
    whole_unmarked h = subst (λ z. Whole number (close z s) (closes T s)) (undone_same h) whole_abandon
