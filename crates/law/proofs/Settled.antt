-- With no session open and no row on the move, sweeps empty the memo and a collect leaves the single table's rows.
use Rattle.std.proofs.Common.{◌≡◌, ℕ, zero, suc, ◌*◌, ◌≤◌, Bool, true, false, not, ◌&&◌, eqb, List, [], ◌∷◌, ◌++◌, length, replicate, sym, refl, ap, ◌∙◌, subst, arith, length-append, None, Some, Option}
use Rattle.std.specs.List.{AllByRecursion as All}
use Rattle.std.proofs.lemmas.Bool.{both_ways, and_from, eq-eqb, le-leb, not-true, or_parts}
use Rattle.std.proofs.lemmas.Bool.Decides.{nat_tests}
use Rattle.rules.specs.declared.times.Moment.{Moment}
use Rattle.rules.specs.declared.times.Moment.TheVariants as moment
use Rattle.rules.specs.declared.answers.Call.TheVariants as call
use Rattle.cold.specs.Cold.{Entry}
use Rattle.rules.specs.Moving.{unmoved, row_stays, collect_rule}
use Rattle.rules.specs.Stores.{Store, closed, session_at, with_hot, horizon_of}
use Rattle.rules.specs.Times.{end_past}
use Rattle.slots.specs.Lists.{any, first, each, kept, one, one_if, list_of}
use Rattle.slots.proofs.Folds.{all_both, all_then, all_every, each_same, each_each}
use Rattle.slots.proofs.Edits.{kept_passes}
use Rattle.versions.specs.History.{History, shown, fresh}
use Rattle.versions.proofs.Versions.{Version, plain_begun, plain_ended, v_plain, rows}
use Rattle.versions.proofs.Rows.{rows_append}
use Rattle.cells.proofs.Found.{none_of_kept}
use Rattle.cells.proofs.Beginning.{whole_opened}
use Rattle.cells.proofs.Collecting.{whole_collect}
use Rattle.cells.proofs.Cells.{Whole, hot_version, cold_version, hot_part, cold_part}
use Rattle.cells.proofs.Splitting.{cond_one}
use Rattle.law.specs.Law.{calls, hot_rows, cold_rows, Settled}
use Rattle.law.specs.Runs.{Event, Opening, Served, Step, Runs, at_opening}
use Rattle.law.specs.Single.{Table, all_fed, at_start}
use Rattle.law.proofs.Facts.{facts_of}
use Rattle.law.proofs.Past.{Facts, feeds, past_fresh}
use Rattle.law.proofs.Resting.{DoneBy, Resting, horizon_clock, rows_done}
use Rattle.law.proofs.Steps.{lent_own, step_ok, runs_ok}
use Rattle.law.proofs.SweepsLeft.{Nearer, sweeps_left, sweeps_most, none_left, sweep_nearer}
use Rattle.law.proofs.Tables.{same_start, same_all}

-- a version with neither a mark nor a stamp above c, and with no end at or below c, is shown at c
shown_at : (c : ℕ) (x : Moment) (y : Option Moment) → DoneBy c x y → end_past y c ≡ false → (plain_begun c x && not (plain_ended c y)) ≡ true
shown_at c (moment.Stamp n) None d stays = let low = d.1 in grind (arith, nat_tests)
shown_at c (moment.Stamp n) (Some (moment.Stamp m)) d stays = let low = d.1 in grind (arith, nat_tests)
shown_at c (moment.Stamp n) (Some (moment.Mark m)) d stays = absurd (both_ways (eqb m m) (d.0 m) (eq-eqb m m refl))
shown_at c (moment.Mark n) y d stays = absurd (both_ways (eqb n n) (or_parts _ _ (d.0 n)).0 (eq-eqb n n refl))

module _ {R : Type 0} where
  -- the row of a version that is shown, where the test says so
  row_if : (p : Version R → Bool) (t : Bool) (v : Version R) → p v ≡ true → rows p (one_if t v) ≡ one_if t v.row
  unfolding each
  row_if p true v h = rw h
  row_if p false v h = refl

module _ {K R : Type 0} (number : K → ℕ) where
  -- a store at rest with no notices, whose hot rows have no end at or below the clock: what it holds is shown now
  module _ (σ : Store K R) (T : History R) (w : Whole number σ T) (rest : Resting σ) (no_memo : σ.memo ≡ [])
      (stay : All (λ h. row_stays σ.clock h ≡ true) σ.hot) (k : ℕ) where
    abbrev shown_now : Version R → Bool
    shown_now = v_plain σ.clock

    hot_shown : rows shown_now (hot_part number σ.hot k) ≡ hot_rows K R number k σ
    hot_shown = each_each _ (hot_version number k) σ.hot ∙ each_same _ _ σ.hot
        (all_then _ _ σ.hot (all_both _ _ σ.hot (rows_done number σ T w rest) stay) (λ h p.
        row_if shown_now (eqb (number h.key) k) _ (shown_at σ.clock h.begin h.end p.0 (not-true _ p.1))))

    cold_shown : rows shown_now (cold_part number σ.memo σ.cold k) ≡ cold_rows K R number k σ
    unfolding first
    cold_shown = each_each _ (cold_version number σ.memo k) σ.cold ∙ each_same _ _ σ.cold (all_every _ σ.cold shows)
      where
        plain : Entry R → Version R
        plain c = record { begin = moment.Stamp 1; end = None; row = c.row }

        shows : (c : Entry R) → rows shown_now (cold_version number σ.memo k c) ≡ one_if (eqb c.number k) c.row
        shows c =
            ap (λ memo. rows shown_now (cold_version number memo k c)) no_memo
            ∙ (ap (rows shown_now) (cond_one (eqb c.number k) (plain c))
            ∙ row_if shown_now (eqb c.number k) (plain c) (and_from _ true (le-leb 1 σ.clock w.started) refl))

    rows_left : hot_rows K R number k σ ++ cold_rows K R number k σ ≡ list_of (shown T.commits T.clock k)
    rows_left =
        rw (← hot_shown, ← cold_shown)
        (sym (rows_append shown_now (hot_part number σ.hot k) _)
        ∙ ((w.rel k).plain σ.clock (w.tidy k).low ∙ ap (λ t. list_of (shown T.commits t k)) w.clock))

  -- the memo is empty, and a key's rows, hot and cold, are its row in the table and no other
  abbrev SettledTo : Table R → Store K R → Type 0
  SettledTo table σ = (σ.memo ≡ []) × ((k : ℕ) → hot_rows K R number k σ ++ cold_rows K R number k σ ≡ list_of (table k))

  -- what the history shows at its clock
  abbrev table_of : History R → Table R
  table_of T k = shown T.commits T.clock k

  -- a collect leaves the hot rows that have no end at or below the clock
  collect_settles : (σ : Store K R) (T : History R) → Whole number σ T → Resting σ → σ.memo ≡ []
      → SettledTo (table_of T) (collect_rule σ.lengths σ).after
  collect_settles σ T w rest no_memo = lent_own (λ z. SettledTo (table_of T) z.after) _ σ _ _
      (no_memo, rows_left left T (whole_collect number σ T w) left_rests no_memo stay)
    where
      left : Store K R
      left = with_hot σ (kept (row_stays (horizon_of σ)) σ.hot)

      left_rests : Resting left
      left_rests = record { shut = rest.shut; still = none_of_kept _ _ σ.hot rest.still }

      stay : All (λ h. row_stays σ.clock h ≡ true) left.hot
      stay =
          subst (λ c. All (λ h. row_stays c h ≡ true) left.hot) (horizon_clock number σ T w rest)
          (kept_passes (row_stays (horizon_of σ)) σ.hot)

  -- as many sweeps as the memo needs, or more, and one collect
  sweeps_settle : (m : ℕ) (fs : List (Event K R)) (σ τ : Store K R) (T : History R)
      → Whole number σ T → Resting σ → sweeps_left σ.memo ≤ m
      → calls fs ≡ replicate m call.Sweep ++ one call.Collect → Runs number σ fs τ → SettledTo (table_of T) τ
  unfolding Runs
  sweeps_settle m [] σ τ T w rest enough made run = absurd (omega (arith, simp length-append at (ap length made)))
  sweeps_settle zero (ev ∷ []) σ τ T w rest enough made run =
      let collects : ev.call ≡ call.Collect = cc in
      let step : Step number σ call.Collect ev.answer run.0 = rw collects at run.1 in
      subst (SettledTo (table_of T)) (ap (λ z. z.after) step ∙ run.2)
      (collect_settles σ T w rest (none_left σ.memo enough))
  sweeps_settle zero (ev ∷ (next ∷ fs)) σ τ T w rest enough made run = absurd (omega (arith, ap length made))
  sweeps_settle (suc m) (ev ∷ fs) σ τ T w rest enough made run =
      let sweeps : ev.call ≡ call.Sweep = cc in
      let others : calls fs ≡ replicate m call.Sweep ++ one call.Collect = cc in
      let step : Step number σ call.Sweep ev.answer run.0 = rw sweeps at run.1 in
      let nearer = subst (Nearer σ) step (sweep_nearer number σ T w rest) in
      sweeps_settle m fs run.0 τ T (step_ok number σ run.0 T call.Sweep ev.answer w step) nearer.1
      (omega (arith, nearer.0)) others run.2

  -- from the facts that the events tell of the history
  pub settled_by : (o : Opening) (es fs : List (Event K R)) (σ τ : Store K R) → Served o → Runs number (at_opening o) es σ
      → Facts number (fresh o.clock) es
      → ((s : ℕ) → session_at σ.sessions s ≡ closed)
      → any (λ h. not (unmoved h.mark)) σ.hot ≡ false
      → calls fs ≡ replicate (2 * length σ.memo) call.Sweep ++ one call.Collect → Runs number σ fs τ
      → SettledTo (all_fed number (at_start o.clock) es).table τ
  settled_by o es fs σ τ served run facts shut still made more =
      let start = whole_opened number o.lengths o.clock o.last_tag o.limit o.admits served in
      let whole = runs_ok number es (at_opening o) σ (fresh o.clock) start run in
      let rest : Resting σ = record { shut = shut; still = still } in
      let T : History R = feeds number (fresh o.clock) es in
      let left = sweeps_settle (2 * length σ.memo) fs σ τ T whole rest (sweeps_most σ.memo) made more in
      let same = same_all number es (at_start o.clock) (fresh o.clock) (past_fresh o.clock) (same_start o.clock) facts in
      (left.0, λ k. left.1 k ∙ ap list_of (sym (same.table k)))

pub settled : (K R : Type 0) (number : K → ℕ) → Settled K R number
settled K R number o es fs σ τ served run =
    let start = whole_opened number o.lengths o.clock o.last_tag o.limit o.admits served in
    settled_by number o es fs σ τ served run (facts_of number es (at_opening o) σ (fresh o.clock) start run)
