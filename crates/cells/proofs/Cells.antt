-- What a store is held to. For each pair of a key number and a tag the notices, the cold entries and the hot rows on the
-- move with that pair are in one of nine shapes, `Cell`. `versions` are the versions of a key that a store gives, and
-- `Whole` joins the cells, the versions of every key, the sessions and the clock with the history of the run.
use Rattle.std.proofs.Common.{◌≡◌, ℕ, ◌<◌, ◌≤◌, Bool, true, false, cond, ◌&&◌, eqb, List, [], ◌++◌, length, Some, None, Option, refl}
use Rattle.std.specs.List.{AllByRecursion as All}
use Rattle.rules.specs.declared.times.Moment.{Moment}
use Rattle.rules.specs.declared.tables.HotRow.{HotRow}
use Rattle.rules.specs.declared.tables.Kind.{Kind}
use Rattle.rules.specs.declared.tables.Notice.{Notice}
use Rattle.rules.specs.declared.sheet.Reading.{Reading}
use Rattle.rules.specs.declared.times.Moment.TheVariants as moment
use Rattle.rules.specs.declared.tables.MoveMark.TheVariants.{Chosen, Copied}
use Rattle.rules.specs.declared.tables.Kind.TheVariants.{N, B, E, BE, X}
use Rattle.cold.specs.Cold.{Entry, is_of}
use Rattle.rules.specs.Looking.{is_for, notice_for}
use Rattle.rules.specs.Moving.{bears}
use Rattle.rules.specs.Stores.{Store, session_at, horizon_of}
use Rattle.rules.specs.Times.{end_marked, open_end}
use Rattle.slots.specs.Lists.{any, kept, one, each, one_if}
use Rattle.versions.specs.History.{Turn, History}
use Rattle.versions.proofs.Versions.{Version, Rel, Tidy}
use Rattle.cells.proofs.Horizons.{Early}

-- an end that no reader above the horizon h tells from one that is past: open, or a stamp up to h
abbrev pub QuietEnd : ℕ → Option Moment → Type 0
QuietEnd h None = Unit {0}
QuietEnd h (Some (moment.Stamp n)) = n ≤ h
QuietEnd h (Some (moment.Mark s)) = ⊥

pub quiet_unmarked : (s h : ℕ) (y : Option Moment) → QuietEnd h y → end_marked y s ≡ false
quiet_unmarked s h None quiet = refl
quiet_unmarked s h (Some (moment.Stamp n)) quiet = refl
quiet_unmarked s h (Some (moment.Mark n)) quiet = elim quiet [ ]

-- a notice that waits for its row to arrive: N, with the times of an entry that has no notice
pub record Pending {K : Type 0} (n : Notice K) : Type 0 where
  pub kind : n.kind ≡ N
  pub begin : n.begin ≡ 1
  pub end : n.end ≡ None

module _ {K R : Type 0} where
  -- the notices ns, the entries es and the rows on the move ms of a cell, h being the horizon
  pub data Cell (h : ℕ) (ns : List (Notice K)) (es : List (Entry R)) (ms : List (HotRow K R)) : Type 0 where
    -- nothing, or an entry alone
    c_empty : ns ≡ [] → es ≡ [] → ms ≡ [] → Cell h ns es ms
    c_plain : (c : Entry R) → ns ≡ [] → es ≡ one c → ms ≡ [] → Cell h ns es ms
    -- N with no row on the move; N with a chosen row; N with a copied row and its entry
    c_idle : (n : Notice K) → ns ≡ one n → Pending n → length es ≤ 1 → ms ≡ [] → Cell h ns es ms
    c_chosen : (n : Notice K) (m : HotRow K R) (i : ℕ) → ns ≡ one n → Pending n → es ≡ [] → ms ≡ one m
        → (t : ℕ) → m.mark ≡ Chosen t → m.begin ≡ moment.Stamp i → m.end ≡ None → Cell h ns es ms
    c_copied : (n : Notice K) (m : HotRow K R) (i : ℕ) (c : Entry R) → ns ≡ one n → Pending n → es ≡ one c → ms ≡ one m
        → (t : ℕ) → m.mark ≡ Copied t → m.begin ≡ moment.Stamp i → m.end ≡ None → c.row ≡ m.row → Cell h ns es ms
    -- B, E or BE with its entry
    c_begun : (n : Notice K) (c : Entry R) → ns ≡ one n → n.kind ≡ B → n.end ≡ None → es ≡ one c → ms ≡ [] → Cell h ns es ms
    c_ended : (n : Notice K) (c : Entry R) → ns ≡ one n → n.kind ≡ E → n.begin ≡ 1 → es ≡ one c → ms ≡ []
        → open_end n.end ≡ false → Cell h ns es ms
    c_both : (n : Notice K) (c : Entry R) → ns ≡ one n → n.kind ≡ BE → es ≡ one c → ms ≡ []
        → open_end n.end ≡ false → Cell h ns es ms
    -- X alone
    c_emptied : (n : Notice K) → ns ≡ one n → n.kind ≡ X → n.begin ≤ h → QuietEnd h n.end → es ≡ [] → ms ≡ [] → Cell h ns es ms

-- the version of a hot row
abbrev pub row_version : {K R : Type 0} → HotRow K R → Version R
row_version h = record { begin = h.begin; end = h.end; row = h.row }

module _ {R : Type 0} where
  -- the version of a cold entry with the row r, by its notice's kind, begin and end: N and X hide it
  abbrev pub kind_version : Kind → ℕ → Option Moment → R → List (Version R)
  kind_version N x y r = []
  kind_version B x y r = one (record { begin = moment.Stamp x; end = None; row = r })
  kind_version E x y r = one (record { begin = moment.Stamp 1; end = y; row = r })
  kind_version BE x y r = one (record { begin = moment.Stamp x; end = y; row = r })
  kind_version X x y r = []

  -- without a notice it begins at 1 and is open
  abbrev pub entry_version : {K : Type 0} → Option (Notice K) → R → List (Version R)
  entry_version None r = one (record { begin = moment.Stamp 1; end = None; row = r })
  entry_version (Some n) r = kind_version n.kind n.begin n.end r

module _ {K R : Type 0} (number : K → ℕ) where
  -- a hot row of key k that is on the move under the tag
  abbrev pub mover : ℕ → ℕ → HotRow K R → Bool
  mover k tag h = eqb (number h.key) k && bears h.mark tag

  -- the versions of key k: of the hot rows, then of the cold entries
  abbrev pub hot_version : ℕ → HotRow K R → List (Version R)
  hot_version k h = one_if (eqb (number h.key) k) (row_version h)

  abbrev pub cold_version : List (Notice K) → ℕ → Entry R → List (Version R)
  cold_version memo k c = cond (eqb c.number k) (entry_version (notice_for number memo c.number c.tag) c.row) []

  abbrev pub hot_part : List (HotRow K R) → ℕ → List (Version R)
  hot_part hot k = each (hot_version k) hot

  abbrev pub cold_part : List (Notice K) → List (Entry R) → ℕ → List (Version R)
  cold_part memo cold k = each (cold_version memo k) cold

  abbrev pub versions : Store K R → ℕ → List (Version R)
  versions σ k = hot_part σ.hot k ++ cold_part σ.memo σ.cold k

  -- the store alone: every cell has a shape, no tag above the last is in use, and the filter admits what is cold
  pub record Sound (h last : ℕ) (admits : ℕ → Bool)
      (hot : List (HotRow K R)) (memo : List (Notice K)) (cold : List (Entry R)) : Type 0 where
    pub cells : (k tag : ℕ) → Cell h (kept (is_for number k tag) memo) (kept (is_of k tag) cold) (kept (mover k tag) hot)
    pub unused : (k tag : ℕ) → last < tag → (kept (is_for number k tag) memo ≡ []) × (kept (is_of k tag) cold ≡ [])
    pub known : (k : ℕ) → any (λ c. eqb c.number k) cold ≡ true → admits k ≡ true

  -- a session entry and the history's turn
  abbrev pub Agree : Option Reading → Option (Turn R) → Type 0
  Agree None None = Unit {0}
  Agree None (Some x) = ⊥
  Agree (Some r) None = ⊥
  Agree (Some r) (Some x) = (x.mode ≡ r.mode) × (x.read ≡ r.time)

  -- a store and the history of its run
  pub record Whole (σ : Store K R) (T : History R) : Type 0 where
    pub clock : σ.clock ≡ T.clock
    pub many : length σ.sessions ≡ 64
    pub agree : (s : ℕ) → Agree (session_at σ.sessions s).reading (T.turn s)
    pub early : All (Early σ.clock) σ.sessions
    pub started : 1 ≤ σ.clock
    pub tags : σ.last_tag ≤ 4000000000
    pub sound : Sound (horizon_of σ) σ.last_tag σ.admits σ.hot σ.memo σ.cold
    pub rel : (k : ℕ) → Rel (horizon_of σ) T.commits T.turn k (versions σ k)
    pub tidy : (k : ℕ) → Tidy (horizon_of σ) σ.clock T.commits T.turn k
