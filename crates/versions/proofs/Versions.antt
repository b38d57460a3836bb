-- The versions of one key as a list, and how they stand to the history of the run. `Rel` ties the list to the history,
-- `Tidy` is what the history alone keeps to at a key. The lemmas of the other files keep both.
use Rattle.std.proofs.Common.{◌≡◌, ℕ, ◌≤◌, Bool, true, false, not, ◌&&◌, ◌||◌, ltb, leb, List, is_some, Some, None, Option}
use Rattle.std.specs.List.{AllByRecursion as All}
use Rattle.rules.specs.declared.times.Moment.{Moment}
use Rattle.rules.specs.declared.times.Moment.TheVariants as moment
use Rattle.rules.specs.Times.{sees, begin_marked, end_marked, begin_above, end_above}
use Rattle.slots.specs.Lists.{any, each, one_if, list_of}
use Rattle.versions.specs.History.{Commit, Turn, shown, turn_writes, turn_read}

-- a version of one key
pub record Version (R : Type 0) : Type 0 where
  pub begin : Moment
  pub end : Option Moment
  pub row : R

-- what has begun, and what has ended, at time t for a reader that has no marks
abbrev pub plain_begun : ℕ → Moment → Bool
plain_begun t (moment.Stamp n) = leb n t
plain_begun t (moment.Mark m) = false

abbrev pub plain_ended : ℕ → Option Moment → Bool
plain_ended t None = false
plain_ended t (Some x) = plain_begun t x

-- a marked begin has an open end, and no end's stamp is below its begin's
abbrev pub Shaped : Moment → Option Moment → Type 0
Shaped (moment.Stamp n) None = Unit {0}
Shaped (moment.Stamp n) (Some (moment.Stamp m)) = n ≤ m
Shaped (moment.Stamp n) (Some (moment.Mark s)) = Unit {0}
Shaped (moment.Mark s) None = Unit {0}
Shaped (moment.Mark s) (Some x) = ⊥

module _ {R : Type 0} where
  -- tests of a version: seen at time t without marks, seen by session s with read time t
  abbrev pub v_plain : ℕ → Version R → Bool
  v_plain t v = plain_begun t v.begin && not (plain_ended t v.end)

  abbrev pub v_sees : ℕ → ℕ → Version R → Bool
  v_sees s t v = sees v.begin v.end s t

  -- begun with the mark of s, ended with the mark of s
  abbrev pub v_begun : ℕ → Version R → Bool
  v_begun s v = begin_marked v.begin s

  abbrev pub v_ended : ℕ → Version R → Bool
  v_ended s v = end_marked v.end s

  -- with a stamp above t
  abbrev pub v_above : ℕ → Version R → Bool
  v_above t v = begin_above v.begin t || end_above v.end t

  abbrev pub VShaped : Version R → Type 0
  VShaped v = Shaped v.begin v.end

  -- the rows of the versions that pass
  abbrev pub rows : (Version R → Bool) → List (Version R) → List R
  rows p = each (λ v. one_if (p v) v.row)

  -- the row that a write puts
  abbrev pub put_of : Option (Option R) → Option R
  put_of None = None
  put_of (Some w) = w

  -- a commit with a stamp above t wrote the key
  abbrev pub wrote_above : List (Commit R) → ℕ → ℕ → Bool
  wrote_above cs t k = any (λ c. ltb t c.stamp && is_some (c.writes k)) cs

  -- the read time of an open session, and its write on the key
  abbrev pub read_of : (ℕ → Option (Turn R)) → ℕ → ℕ
  read_of turn s = turn_read (turn s)

  abbrev pub writes_of : (ℕ → Option (Turn R)) → ℕ → ℕ → Option (Option R)
  writes_of turn s k = turn_writes (turn s) k

  -- was the key there at the session's read time
  abbrev pub had_at : List (Commit R) → (ℕ → Option (Turn R)) → ℕ → ℕ → Bool
  had_at cs turn s k = is_some (shown cs (read_of turn s) k)

  -- The versions V of key k fit a history with the commits cs and the open sessions turn, h being the horizon:
  -- plain, a reader without marks sees what the history shows, from the horizon on;
  -- mine, a session that wrote the key sees its write;
  -- begun and ended, marks stand where sessions have writes; stamps, so do stamps where commits have them
  pub record Rel (h : ℕ) (cs : List (Commit R)) (turn : ℕ → Option (Turn R)) (k : ℕ) (V : List (Version R)) : Type 0 where
    pub plain : (t : ℕ) → h ≤ t → rows (v_plain t) V ≡ list_of (shown cs t k)
    pub mine : (s : ℕ) (w : Option R) → writes_of turn s k ≡ Some w → (t : ℕ) → read_of turn s ≤ t → rows (v_sees s t) V ≡ list_of w
    pub begun : (s : ℕ) → rows (v_begun s) V ≡ list_of (put_of (writes_of turn s k))
    pub ended : (s : ℕ) → any (v_ended s) V ≡ (is_some (writes_of turn s k) && had_at cs turn s k)
    pub stamps : (t : ℕ) → h ≤ t → any (v_above t) V ≡ wrote_above cs t k
    pub shaped : All VShaped V

  -- What a history with the clock c keeps to at key k: stamps up to the clock, the horizon too; one session at most has a
  -- write on the key, no commit wrote it since that session's read time, which is not below the horizon, and what it
  -- dropped was there
  pub record Tidy (h c : ℕ) (cs : List (Commit R)) (turn : ℕ → Option (Turn R)) (k : ℕ) : Type 0 where
    pub past : All (λ x. x.stamp ≤ c) cs
    pub low : h ≤ c
    pub lone : (s r : ℕ) (w x : Option R) → writes_of turn s k ≡ Some w → writes_of turn r k ≡ Some x → s ≡ r
    pub newest : (s : ℕ) (w : Option R) → writes_of turn s k ≡ Some w → wrote_above cs (read_of turn s) k ≡ false
    pub dropped : (s : ℕ) → writes_of turn s k ≡ Some None → had_at cs turn s k ≡ true
    pub reads : (s : ℕ) (w : Option R) → writes_of turn s k ≡ Some w → (h ≤ read_of turn s) × (read_of turn s ≤ c)
