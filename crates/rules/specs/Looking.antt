-- What a session sees of a key, and whether the key is in conflict for it.
-- s is the session's number, t its read time, k the key's number.
use Rattle.std.specs.Prelude.{ℕ, ◌+◌, Bool, cond, ◌&&◌, ◌||◌, List, [], ◌∷◌, Some, None, Option, ◌==◌, nat_lt}
use Rattle.slots.specs.Lists.{any, first}
use Rattle.cold.specs.Cold.{Entry, own}
use Rattle.rules.specs.declared.times.Moment.TheVariants as moment
use Rattle.rules.specs.declared.tables.HotRow.{HotRow}
use Rattle.rules.specs.declared.tables.Notice.{Notice}
use Rattle.rules.specs.Times.{sees, foreign_begin, foreign_end, begin_above, end_above}
use Rattle.rules.specs.Notices.{kind_sees}
use Rattle.rules.specs.Stores.{Store}

-- a cold entry without a notice begins at 1 and has an open end
abbrev pub noted_sees : {K : Type 0} → Option (Notice K) → ℕ → ℕ → Bool
noted_sees None s t = sees (moment.Stamp 1) None s t
noted_sees (Some n) s t = kind_sees n.kind n.begin n.end s t

module _ {K : Type 0} (number : K → ℕ) where
  -- the notice of a cold entry has its key and tag
  abbrev pub is_for : ℕ → ℕ → Notice K → Bool
  is_for k tag n = number n.key == k && n.tag == tag

  abbrev pub notice_for : List (Notice K) → ℕ → ℕ → Option (Notice K)
  notice_for memo k tag = first (is_for k tag) memo

  -- a notice of the key with another session's mark or a stamp above t, and with a stamp above t
  abbrev pub notice_foreign : ℕ → ℕ → ℕ → Notice K → Bool
  notice_foreign s t k n = number n.key == k && (nat_lt t n.begin || foreign_end n.end s t)

  abbrev pub notice_above : ℕ → ℕ → Notice K → Bool
  notice_above t k n = number n.key == k && (nat_lt t n.begin || end_above n.end t)

module _ {K R : Type 0} (number : K → ℕ) where
  abbrev pub hot_sees : ℕ → ℕ → ℕ → HotRow K R → Bool
  hot_sees s t k h = number h.key == k && sees h.begin h.end s t

  -- a hot row of the key with another session's mark or a stamp above t, and with a stamp above t
  abbrev pub hot_foreign : ℕ → ℕ → ℕ → HotRow K R → Bool
  hot_foreign s t k h = number h.key == k && (foreign_begin h.begin s t || foreign_end h.end s t)

  abbrev pub hot_above : ℕ → ℕ → HotRow K R → Bool
  hot_above t k h = number h.key == k && (begin_above h.begin t || end_above h.end t)

  -- a cold entry has its times from the first notice with its key and tag
  abbrev pub cold_sees : List (Notice K) → ℕ → ℕ → Entry R → Bool
  cold_sees memo s t c = noted_sees (notice_for number memo c.number c.tag) s t

  -- the key is in conflict for the session
  abbrev pub conflict : Store K R → ℕ → ℕ → ℕ → Bool
  conflict σ s t k = any (hot_foreign s t k) σ.hot || any (notice_foreign number s t k) σ.memo

  -- the key has a stamp above t
  abbrev pub above : Store K R → ℕ → ℕ → Bool
  above σ t k = any (hot_above t k) σ.hot || any (notice_above number t k) σ.memo

-- the version that a lookup finds
pub data Seen (K R : Type 0) : Type 0 where
  hot_one : HotRow K R → Seen K R
  cold_one : Entry R → Seen K R
  nothing : Seen K R

-- a lookup's version, and how many finds it took
pub record Looked (K R : Type 0) : Type 0 where
  pub seen : Seen K R
  pub finds : ℕ

module _ {K R : Type 0} where
  abbrev pub row_of : Seen K R → Option R
  row_of (hot_one h) = Some h.row
  row_of (cold_one c) = Some c.row
  row_of nothing = None

  -- Finds run through the key's own entries by rising tag until one is seen or none is left: the last one, which finds
  -- nothing, counts too. After the highest tag of 32 bits there is no tag to find from. `c` finds were made before.
  unfoldable pub walk : (Entry R → Bool) → List (Entry R) → ℕ → Looked K R
  walk passes [] c = record { seen = nothing; finds = c + 1 }
  walk passes (x ∷ xs) c =
      cond (passes x) (record { seen = cold_one x; finds = c + 1 })
      (cond (nat_lt x.tag 4294967295) (walk passes xs (c + 1)) (record { seen = nothing; finds = c + 1 }))

  -- a hot row that is seen settles it with no find
  abbrev pub hot_first : Option (HotRow K R) → Looked K R → Looked K R
  hot_first (Some h) rest = record { seen = hot_one h; finds = 0 }
  hot_first None rest = rest

module _ {K R : Type 0} (number : K → ℕ) where
  -- the hot table first, then the filter, then the finds from tag 0
  abbrev pub looked : Store K R → ℕ → ℕ → ℕ → Looked K R
  looked σ s t k =
      hot_first (first (hot_sees number s t k) σ.hot)
      (cond (σ.admits k) (walk (cold_sees number σ.memo s t) (own k 0 σ.cold) 0)
      (record { seen = nothing; finds = 0 }))
