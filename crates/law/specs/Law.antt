-- The law of the store, over every two runs from served openings.
use Rattle.std.specs.Prelude.{◌≡◌, ℕ, ◌*◌, Bool, true, false, not, List, [], ◌∷◌, ◌++◌, map, length, take, replicate, is_some, Option, ◌==◌, Ok, Err}
use Rattle.slots.specs.Lists.{any, kept, each, one, one_if, list_of}
use Rattle.rules.specs.Outcomes.{Told}
use Rattle.rules.specs.declared.sheet.Mode.TheVariants.{Checked}
use Rattle.rules.specs.declared.answers.Refusal.{Refusal}
use Rattle.rules.specs.declared.answers.Refusal.TheVariants as refusal
use Rattle.rules.specs.declared.answers.Call.{Call}
use Rattle.rules.specs.declared.answers.Call.TheVariants as call
use Rattle.rules.specs.Stores.{Store, closed, session_at}
use Rattle.rules.specs.Moving.{unmoved}
use Rattle.law.specs.Runs.{Event, Runs, Opening, Served, at_opening, by_seller}
use Rattle.law.specs.Single.{Table, no_rows, all_fed, at_start}
use Rattle.law.specs.Episodes.{Committed, place, placed, earlier, by_place, all_carried, own_acts, read_of, drop_of}

module _ {K R : Type 0} where
  -- the events of sellers, in their order
  abbrev pub seller_events : List (Event K R) → List (Event K R)
  seller_events es = kept (λ ev. by_seller ev.call) es

  abbrev pub calls : List (Event K R) → List (Call K R)
  calls es = map (λ ev. ev.call) es

  abbrev pub answers : List (Event K R) → List (Told R)
  answers es = map (λ ev. ev.answer) es

-- refused for a full hot table or memo
abbrev pub for_want_of_room : Refusal → Bool
for_want_of_room (refusal.OutOfRange x) = false
for_want_of_room refusal.NoSession = false
for_want_of_room refusal.AlreadyOpen = false
for_want_of_room refusal.NotOpen = false
for_want_of_room refusal.Conflict = false
for_want_of_room refusal.LedgerFull = false
for_want_of_room refusal.HotFull = true
for_want_of_room (refusal.MemoFull x) = true
for_want_of_room refusal.StaleRead = false
for_want_of_room refusal.ClockAtEnd = false
for_want_of_room refusal.NoRow = false
for_want_of_room refusal.AlreadyMarked = false
for_want_of_room refusal.TagsAtEnd = false
for_want_of_room refusal.MoveOver = false
for_want_of_room (refusal.Cold inside) = false

module _ {R : Type 0} where
  abbrev pub cramped : Told R → Bool
  cramped (Ok v) = false
  cramped (Err e) = for_want_of_room e

module _ (K R : Type 0) (number : K → ℕ) where
  -- Two stores on the same clock and ledger length that get the same seller calls in the same order answer them alike,
  -- whatever other calls fall between, up to the first seller call that either refuses for a full hot table or memo.
  abbrev pub Alike : Type 0
  Alike =
      (o p : Opening) (es fs : List (Event K R)) (σ τ : Store K R)
      → Served o → Served p → o.clock ≡ p.clock → o.lengths.lines ≡ p.lengths.lines
      → Runs number (at_opening o) es σ → Runs number (at_opening p) fs τ
      → calls (seller_events es) ≡ calls (seller_events fs)
      → (n : ℕ)
      → any cramped (answers (take n (seller_events es))) ≡ false
      → any cramped (answers (take n (seller_events fs))) ≡ false
      → answers (take n (seller_events es)) ≡ answers (take n (seller_events fs))

  -- the single table after the writes of every committed session placed earlier, in turn
  abbrev pub table_before : ℕ → List (Event K R) → ℕ → Table R
  table_before clock es p = all_carried (by_place (earlier p (placed number (at_start clock) es))) no_rows

  -- where a committed session of a run from this clock is placed
  abbrev pub place_of : ℕ → {es : List (Event K R)} → Committed es → ℕ
  place_of clock c = place (all_fed number (at_start clock) c.before).clock c.stamp

  -- Each served read and drop of a committed checked session answers as the single table does after the writes of every
  -- earlier-placed committed session, then the session's own served puts and drops before it.
  abbrev pub Serial : Type 0
  Serial =
      (o : Opening) (es : List (Event K R)) (σ : Store K R) → Served o → Runs number (at_opening o) es σ
      → (c : Committed es) → c.mode ≡ Checked
      → (done rest : List (Event K R)) (k : K)
      → ((row : Option R) → c.work ≡ done ++ (read_of c.session k row ∷ rest)
      → row ≡ own_acts number c.session (table_before o.clock es (place_of o.clock c)) done (number k))
      × ((was : Bool) → c.work ≡ done ++ (drop_of c.session k was ∷ rest)
      → was ≡ is_some (own_acts number c.session (table_before o.clock es (place_of o.clock c)) done (number k)))

  -- the rows of a key number in the hot table, and in the cold store
  abbrev pub hot_rows : ℕ → Store K R → List R
  hot_rows k σ = each (λ h. one_if (number h.key == k) h.row) σ.hot

  abbrev pub cold_rows : ℕ → Store K R → List R
  cold_rows k σ = each (λ c. one_if (c.number == k) c.row) σ.cold

  -- With no session open and no row on the move, 2 × n sweeps and one collect empty the memo of n notices, and leave for
  -- each key the single table's row in the hot table or the cold store, and no other.
  abbrev pub Settled : Type 0
  Settled =
      (o : Opening) (es fs : List (Event K R)) (σ τ : Store K R) → Served o → Runs number (at_opening o) es σ
      → ((s : ℕ) → session_at σ.sessions s ≡ closed)
      → any (λ h. not (unmoved h.mark)) σ.hot ≡ false
      → calls fs ≡ replicate (2 * length σ.memo) call.Sweep ++ one call.Collect → Runs number σ fs τ
      → (τ.memo ≡ [])
      × ((k : ℕ) → hot_rows k τ ++ cold_rows k τ ≡ list_of ((all_fed number (at_start o.clock) es).table k))

  abbrev pub Law : Type 0
  Law = Alike × Serial × Settled
