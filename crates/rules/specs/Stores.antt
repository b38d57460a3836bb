-- The store as one value: all that the sheet, the lent tables, the cold store and the filter mean.
use Rattle.std.specs.Prelude.{ℕ, Bool, ◌&&◌, List, length, take, Some, None, ◌==◌, nat_le, slice_index_or, slice_set}
use Rattle.cold.specs.Cold.{Entry}
use Rattle.rules.specs.declared.tables.HotRow.{HotRow}
use Rattle.rules.specs.declared.tables.Notice.{Notice}
use Rattle.rules.specs.declared.tables.Line.{Line}
use Rattle.rules.specs.declared.sheet.Mode.{Mode}
use Rattle.rules.specs.declared.sheet.Session.{Session}
use Rattle.rules.specs.declared.sheet.Sheet.{Sheet}
use Rattle.rules.specs.Horizon.{horizon}

-- the lengths of the three tables
pub record Lengths : Type 0 where
  pub hots : ℕ
  pub memos : ℕ
  pub lines : ℕ

abbrev pub same_lengths : Lengths → Lengths → Bool
same_lengths a b = a.hots == b.hots && (a.memos == b.memos && a.lines == b.lines)

-- the lengths of the opening
abbrev pub lengths_of : Sheet → Lengths
lengths_of sheet = record { hots = sheet.hot.length; memos = sheet.memo.length; lines = sheet.ledger.length }

-- the lengths of lent tables
abbrev pub lent : {X Y Z : Type 0} → List X → List Y → List Z → Lengths
lent hot memo ledger = record { hots = length hot; memos = length memo; lines = length ledger }

pub record Store (K R : Type 0) : Type 0 where
  pub lengths : Lengths
  pub sessions : List Session
  pub clock : ℕ
  pub last_tag : ℕ
  pub finds : ℕ
  pub hot : List (HotRow K R)
  pub memo : List (Notice K)
  pub ledger : List (Line K)
  -- the cold store's entries by rising key number, then tag; how many fit; and the numbers that the filter admits
  pub cold : List (Entry R)
  pub limit : ℕ
  pub admits : ℕ → Bool

-- the sheet tells how many slots of a lent table are its list
abbrev pub store : {K R : Type 0}
    → Sheet → List (HotRow K R) → List (Notice K) → List (Line K) → List (Entry R) → ℕ → (ℕ → Bool) → Store K R
store sheet hot memo ledger cold limit admits = record {
  lengths = lengths_of sheet;
  sessions = sheet.sessions;
  clock = sheet.clock;
  last_tag = sheet.last_tag;
  finds = sheet.finds;
  hot = take sheet.hot.used hot;
  memo = take sheet.memo.used memo;
  ledger = take sheet.ledger.used ledger;
  cold = cold;
  limit = limit;
  admits = admits;
}

-- a session entry that is closed, and one that is open
abbrev pub closed : Session
closed = record { reading = None }

abbrev pub opened_at : Mode → ℕ → Session
opened_at mode time = record { reading = Some (record { mode = mode; time = time }) }

abbrev pub session_at : List Session → ℕ → Session
session_at sessions s = slice_index_or sessions s closed

-- what is left of a store when one part is changed
module _ {K R : Type 0} where
  abbrev pub with_tables : Store K R → List (HotRow K R) → List (Notice K) → List (Line K) → Store K R
  with_tables σ hot memo ledger = record {
    lengths = σ.lengths;
    sessions = σ.sessions;
    clock = σ.clock;
    last_tag = σ.last_tag;
    finds = σ.finds;
    hot = hot;
    memo = memo;
    ledger = ledger;
    cold = σ.cold;
    limit = σ.limit;
    admits = σ.admits;
  }

  abbrev pub with_hot : Store K R → List (HotRow K R) → Store K R
  with_hot σ hot = with_tables σ hot σ.memo σ.ledger

  abbrev pub with_memo : Store K R → List (Notice K) → Store K R
  with_memo σ memo = with_tables σ σ.hot memo σ.ledger

  abbrev pub with_ledger : Store K R → List (Line K) → Store K R
  with_ledger σ ledger = with_tables σ σ.hot σ.memo ledger

  abbrev pub with_sheet : Store K R → List Session → ℕ → ℕ → ℕ → Store K R
  with_sheet σ sessions clock last_tag finds = record {
    lengths = σ.lengths;
    sessions = sessions;
    clock = clock;
    last_tag = last_tag;
    finds = finds;
    hot = σ.hot;
    memo = σ.memo;
    ledger = σ.ledger;
    cold = σ.cold;
    limit = σ.limit;
    admits = σ.admits;
  }

  abbrev pub with_session : Store K R → ℕ → Session → Store K R
  with_session σ s x = with_sheet σ (slice_set σ.sessions s x) σ.clock σ.last_tag σ.finds

  abbrev pub with_clock : Store K R → ℕ → Store K R
  with_clock σ clock = with_sheet σ σ.sessions clock σ.last_tag σ.finds

  abbrev pub with_last_tag : Store K R → ℕ → Store K R
  with_last_tag σ tag = with_sheet σ σ.sessions σ.clock tag σ.finds

  abbrev pub with_finds : Store K R → ℕ → Store K R
  with_finds σ finds = with_sheet σ σ.sessions σ.clock σ.last_tag finds

  abbrev pub with_below : Store K R → List (Entry R) → (ℕ → Bool) → Store K R
  with_below σ cold admits = record {
    lengths = σ.lengths;
    sessions = σ.sessions;
    clock = σ.clock;
    last_tag = σ.last_tag;
    finds = σ.finds;
    hot = σ.hot;
    memo = σ.memo;
    ledger = σ.ledger;
    cold = cold;
    limit = σ.limit;
    admits = admits;
  }

  abbrev pub with_cold : Store K R → List (Entry R) → Store K R
  with_cold σ cold = with_below σ cold σ.admits

  abbrev pub with_admits : Store K R → (ℕ → Bool) → Store K R
  with_admits σ admits = with_below σ σ.cold admits

  abbrev pub horizon_of : Store K R → ℕ
  horizon_of σ = horizon σ.clock σ.sessions

  -- no slot is left
  abbrev pub hot_full : Store K R → Bool
  hot_full σ = nat_le σ.lengths.hots (length σ.hot)

  abbrev pub memo_full : Store K R → Bool
  memo_full σ = nat_le σ.lengths.memos (length σ.memo)

  abbrev pub ledger_full : Store K R → Bool
  ledger_full σ = nat_le σ.lengths.lines (length σ.ledger)
