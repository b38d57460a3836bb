-- Opening a store: three lengths, a clock and a last tag within their ranges.
use Rattle.std.specs.Prelude.{ℕ, Bool, ◌&&◌, List, [], replicate, nat_le}
use Rattle.cold.specs.Cold.{Entry}
use Rattle.rules.specs.Stores.{Store, Lengths, closed}

-- low ≤ n ≤ high
abbrev pub within : ℕ → ℕ → ℕ → Bool
within low high n = nat_le low n && nat_le n high

abbrev pub in_range : Lengths → ℕ → ℕ → Bool
in_range lengths clock last_tag =
    within 1 65536 lengths.hots && (within 1 8192 lengths.memos && (within 1 4096 lengths.lines
    && (within 1 4000000000 clock && within 0 4000000000 last_tag)))

-- the tables are empty, all sessions are closed, and no finds are told
abbrev pub opened : {K R : Type 0} → Lengths → ℕ → ℕ → List (Entry R) → ℕ → (ℕ → Bool) → Store K R
opened lengths clock last_tag cold limit admits = record {
  lengths = lengths;
  sessions = replicate 64 closed;
  clock = clock;
  last_tag = last_tag;
  finds = 0;
  hot = [];
  memo = [];
  ledger = [];
  cold = cold;
  limit = limit;
  admits = admits;
}
