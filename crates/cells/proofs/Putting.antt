-- Put and drop. On the session's own unfinished version they replace its row or take it out. Else what the session sees of
-- the key is ended, and a put adds a new row.
use Rattle.std.proofs.Common.{◌≡◌, ℕ, Bool, true, false, cond, ◌⊎◌, List, [], Some, None, Option, sym, refl, ap, ◌∙◌, subst, inl, inr}
use Rattle.rules.specs.declared.sheet.Reading.{Reading}
use Rattle.rules.specs.declared.tables.HotRow.{HotRow}
use Rattle.cold.specs.Cold.{Entry}
use Rattle.rules.specs.Looking.{hot_sees, conflict, looked, row_of}
use Rattle.rules.specs.Selling.{hot_own, new_row, push_hot, end_seen, replace_own, drop_own}
use Rattle.rules.specs.Stores.{Store, session_at, with_finds}
use Rattle.slots.specs.Lists.{first, any, list_of}
use Rattle.slots.proofs.Edits.{head}
use Rattle.versions.specs.History.{History, over, shown, turn_read, puts, drops, had}
use Rattle.versions.proofs.Versions.{v_sees, v_begun, rows, put_of, writes_of}
use Rattle.cells.proofs.Cells.{Whole, versions}
use Rattle.cells.proofs.Sessions.{read_time}
use Rattle.cells.proofs.Beginning.{whole_finds}
use Rattle.cells.proofs.Walking.{found, entry_sees, looked_is}
use Rattle.cells.proofs.Looking.{looked_head, looked_row, sees_rows}
use Rattle.cells.proofs.Writes.{writes_to, writes_twice, writes_same, MayWrite, may_write, Freed, written}
use Rattle.cells.proofs.OwnRows.{whole_replaced, whole_taken_out}
use Rattle.cells.proofs.EndedRows.{freed_hot}
use Rattle.cells.proofs.EndedEntries.{freed_cold}
use Rattle.cells.proofs.NewRows.{unbegun, whole_add}

module _ {R : Type 0} where
  put_none : (o : Option (Option R)) → list_of (put_of o) ≡ [] → (o ≡ None) ⊎ (o ≡ Some None)
  put_none None h = inl refl
  put_none (Some None) h = inr refl
  put_none (Some (Some q)) h = absurd cc

  drop_no_put : (t : Bool) (v : Option (Option R)) → v ≡ cond t (Some None) None → list_of (put_of v) ≡ []
  drop_no_put true v h = rw h
  drop_no_put false v h = rw h

  list_head : (xs : List R) (o : Option R) → xs ≡ list_of o → head xs ≡ None → xs ≡ []
  unfolding head
  list_head xs None h g = h
  list_head xs (Some q) h g = absurd cc

module _ {K R : Type 0} (number : K → ℕ) where
  -- after what is seen is ended, a put is a new row
  whole_push : {T : History R} {s : ℕ} {key : K} {τ : Store K R} (σ : Store K R) → MayWrite number σ T s key
      → (v : Option (Option R)) → Freed number T s key τ v → (row : R)
      → Whole number (push_hot τ (new_row s key row)) (puts T s (number key) row)
  whole_push {T} {s} {key} {τ} σ m v f row =
      let none : rows (v_begun s) (versions number τ (number key)) ≡ [] =
      (f.may.whole.rel (number key)).begun s
      ∙ (ap (λ z. list_of (put_of z)) (written number m v).its ∙ drop_no_put (had T s (number key)) v f.fits) in
      subst (Whole number (push_hot τ (new_row s key row)))
      (writes_twice T s (number key) m.reader.turn m.reader.has v (Some (Some row)))
      (whole_add number f.may row f.unseen none)

  module _ {σ : Store K R} {T : History R} {s : ℕ} {key : K} (m : MayWrite number σ T s key)
      (no_own : any (hot_own number s (number key)) σ.hot ≡ false) where
    abbrev k : ℕ
    k = number key

    abbrev time : ℕ
    time = turn_read (T.turn s)

    abbrev hot_seen : Option (HotRow K R)
    hot_seen = first (hot_sees number s time k) σ.hot

    abbrev cold_seen : Option (Entry R)
    cold_seen = first (entry_sees number σ.memo s time k) σ.cold

    -- the session has dropped the key or not written it
    no_put : (writes_of T.turn s k ≡ None) ⊎ (writes_of T.turn s k ≡ Some None)
    no_put = put_none (writes_of T.turn s k) (sym ((m.whole.rel k).begun s) ∙ unbegun number σ s k no_own)

    looks : row_of (found hot_seen cold_seen) ≡ over (writes_of T.turn s k) (shown T.commits time k)
    looks = ap row_of (sym (looked_is number σ T m.whole s time k)) ∙ looked_row number σ T m.whole s m.reader k

    -- a key that it sees, it has not written
    unwritten : (q : R) → row_of (found hot_seen cold_seen) ≡ Some q → writes_of T.turn s k ≡ None
    unwritten q h = elim no_put [
      | inl e ↦ e
      | inr e ↦ absurd (
          let none : row_of (found hot_seen cold_seen) ≡ None = looks ∙ ap (λ z. over z (shown T.commits time k)) e in
          cc)
    ]

    -- a key that it does not see, it has dropped if it had it
    fits_none : row_of (found hot_seen cold_seen) ≡ None → writes_of T.turn s k ≡ cond (had T s k) (Some None) None
    fits_none h = elim no_put [
      | inl e ↦
          let g : shown T.commits time k ≡ None = sym (looks ∙ ap (λ z. over z (shown T.commits time k)) e) ∙ h in
          rw (e, g)
      | inr e ↦ rw (e, (m.whole.tidy k).dropped s e)
    ]

    freed_none : row_of (found hot_seen cold_seen) ≡ None → Freed number T s key σ (writes_of T.turn s k)
    freed_none h =
        let same : T ≡ writes_to T s k (writes_of T.turn s k) = sym (writes_same T s k m.reader.turn m.reader.has) in
        let head_none = looked_head number σ T m.whole s time k ∙ (ap row_of (looked_is number σ T m.whole s time k) ∙ h) in
        let unseen : rows (v_sees s time) (versions number σ k) ≡ [] =
        list_head _ _ (sees_rows number σ T m.whole s m.reader k) head_none in
        record {
          may = subst (λ z. MayWrite number σ z s key) same m;
          unseen = subst (λ z. rows (v_sees s (turn_read (z.turn s))) (versions number σ k) ≡ []) same unseen;
          fits = fits_none h;
        }

    -- by what the lookup finds
    freed_found : (o : Option (HotRow K R)) (q : Option (Entry R)) → hot_seen ≡ o → cold_seen ≡ q
        → (v : Option (Option R)) × Freed number T s key (end_seen number σ s time key (found o q)) v
    freed_found (Some x) q p u = (Some None, freed_hot number m (unwritten x.row (ap (λ z. row_of (found z cold_seen)) p)) x p)
    freed_found None (Some c) p u =
        let row : row_of (found hot_seen cold_seen) ≡ Some c.row = rw (p, u) in
        (Some None, freed_cold number m (unwritten c.row row) c u)
    freed_found None None p u = (writes_of T.turn s k, freed_none (rw (p, u)))

    freed : (v : Option (Option R)) × Freed number T s key (end_seen number σ s time key (looked number σ s time k).seen) v
    freed =
        subst (λ z. (v : Option (Option R)) × Freed number T s key (end_seen number σ s time key z) v)
        (sym (looked_is number σ T m.whole s time k)) (freed_found hot_seen cold_seen refl refl)

  -- the calls, at the read time that the sheet has
  module _ (σ : Store K R) (T : History R) (w : Whole number σ T) (s : ℕ) (r : Reading)
      (reads : (session_at σ.sessions s).reading ≡ Some r) (key : K) (free : conflict number σ s r.time (number key) ≡ false)
      (finds : ℕ) where
    abbrev told : Store K R
    told = with_finds σ finds

    may : MayWrite number told T s key
    may = may_write number told T (whole_finds number σ T finds w) s r reads key free

    module _ (own : any (hot_own number s (number key)) σ.hot ≡ true) where
      pub whole_replace_own : (row : R) → Whole number (replace_own number (with_finds σ finds) s key row) (puts T s (number key) row)
      whole_replace_own row = whole_replaced number may own row

      pub whole_drop_own : Whole number (drop_own number (with_finds σ finds) s key) (drops T s (number key))
      whole_drop_own = whole_taken_out number may own

    module _ (no_own : any (hot_own number s (number key)) σ.hot ≡ false) where
      -- the store in which what the lookup at time t finds is ended
      abbrev left : ℕ → Store K R
      left t = end_seen number told s t key (looked number σ s t (number key)).seen

      ended : (v : Option (Option R)) × Freed number T s key (left r.time) v
      ended = subst (λ t. (v : Option (Option R)) × Freed number T s key (left t) v) (read_time number σ T w s r reads) (freed may no_own)

      pub whole_put : (row : R)
          → Whole number
          (push_hot (end_seen number (with_finds σ finds) s r.time key (looked number σ s r.time (number key)).seen)
          (new_row s key row))
          (puts T s (number key) row)
      whole_put row = whole_push told may ended.0 ended.1 row

      pub whole_drop : Whole number (end_seen number (with_finds σ finds) s r.time key (looked number σ s r.time (number key)).seen)
          (drops T s (number key))
      whole_drop = subst (λ v. Whole number (left r.time) (writes_to T s (number key) v)) ended.1.fits ended.1.may.whole
