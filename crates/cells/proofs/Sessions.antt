-- Sessions and the turns of the history: what a whole store knows of an open session, and what closing one leaves.
use Rattle.std.proofs.Common.{◌≡◌, ℕ, ◌<◌, ◌≤◌, List, length, set, Some, None, Option, sym, refl, ap, ◌∙◌, subst, inl, inr}
use Rattle.std.specs.List.{AllByRecursion as All}
use Rattle.std.proofs.ByRecursion.{All-set}
use Rattle.std.proofs.lemmas.List.{get_or-set_other, get_or-set_same, length-set}
use Rattle.std.proofs.lemmas.Bool.{cases_eq, eq-eqb, ne_eqb}
use Rattle.rules.specs.declared.sheet.Reading.{Reading}
use Rattle.rules.specs.declared.sheet.Session.{Session}
use Rattle.rules.specs.Horizon.{horizon}
use Rattle.rules.specs.Stores.{Store, closed, session_at, horizon_of}
use Rattle.versions.specs.History.{Turn, History, turn_writes, turn_read, upd}
use Rattle.versions.proofs.Versions.{writes_of}
use Rattle.cells.proofs.Horizons.{Early, horizon_read, early_read, early_later}
use Rattle.cells.proofs.Cells.{Agree, Whole}

module _ {K R : Type 0} (number : K → ℕ) where
  -- a session that has written is open, and reads when the history says
  pub writer_open : (o : Option Reading) (x : Option (Turn R)) (k : ℕ) (v : Option R)
      → Agree number o x → turn_writes x k ≡ Some v → (r : Reading) × (o ≡ Some r) × (r.time ≡ turn_read x)
  writer_open None None k v a h = absurd cc
  writer_open None (Some y) k v a h = elim a [ ]
  writer_open (Some r) None k v a h = elim a [ ]
  writer_open (Some r) (Some y) k v a h = (r, refl, sym a.1)

  open_turn : (r : Reading) (x : Option (Turn R)) → Agree number (Some r) x → (y : Turn R) × (x ≡ Some y) × (y.read ≡ r.time)
  open_turn r None a = elim a [ ]
  open_turn r (Some y) a = (y, refl, a.1)

  pub closed_turn : (o : Option Reading) (x : Option (Turn R)) → Agree number o x → o ≡ None → x ≡ None
  closed_turn None None a h = refl
  closed_turn None (Some y) a h = elim a [ ]
  closed_turn (Some r) None a h = elim a [ ]
  closed_turn (Some r) (Some y) a h = absurd cc

  -- session s is open: the history has its turn, and its read time is between the horizon and the clock
  pub record Reader (σ : Store K R) (T : History R) (s : ℕ) : Type 0 where
    pub turn : Turn R
    pub has : T.turn s ≡ Some turn
    pub from : horizon_of σ ≤ turn_read (T.turn s)
    pub upto : turn_read (T.turn s) ≤ σ.clock
    pub late : 1 ≤ turn_read (T.turn s)

  module _ (σ : Store K R) (T : History R) (w : Whole number σ T) (s : ℕ) (r : Reading)
      (reads : (session_at σ.sessions s).reading ≡ Some r) where
    its_turn : (y : Turn R) × (T.turn s ≡ Some y) × (y.read ≡ r.time)
    its_turn = open_turn r (T.turn s) (subst (λ z. Agree number z (T.turn s)) reads (w.agree s))

    -- the history and the sheet have the same read time
    pub read_time : turn_read (T.turn s) ≡ r.time
    read_time = ap turn_read its_turn.1 ∙ its_turn.2

    pub reader : Reader σ T s
    reader =
        let e = early_read σ.clock σ.sessions s r w.early reads in
        let f = horizon_read σ.clock σ.sessions s r reads in
        record {
          turn = its_turn.0;
          has = its_turn.1;
          from = rw read_time f;
          upto = rw read_time e.1;
          late = rw read_time e.0;
        }

  -- a session is closed
  module _ (σ : Store K R) (T : History R) (w : Whole number σ T) (s : ℕ) (within : s < 64) where
    abbrev pub shut : List Session
    shut = set σ.sessions s closed

    pub shut_agree : (u : ℕ) → Agree number (session_at shut u).reading (upd T.turn s None u)
    shut_agree u = elim (cases_eq u s) [
      | inl q ↦ rw (q, get_or-set_same σ.sessions s closed closed (rw w.many within), eq-eqb s s refl) tt
      | inr q ↦ rw (get_or-set_other σ.sessions s u closed closed q, ne_eqb u s q) (w.agree u)
    ]

    pub shut_many : length shut ≡ 64
    shut_many = length-set σ.sessions s closed ∙ w.many

    pub shut_early : (d : ℕ) → σ.clock ≤ d → All (Early d) shut
    shut_early d l = All-set (Early d) σ.sessions s closed tt (early_later σ.clock d σ.sessions l w.early)

    -- the others read as before
    pub shut_reads : (d k u : ℕ) (v : Option R)
        → writes_of T.turn u k ≡ Some v → (u ≡ s → ⊥) → horizon d shut ≤ turn_read (T.turn u)
    shut_reads d k u v h ne =
        let a = writer_open (session_at σ.sessions u).reading (T.turn u) k v (w.agree u) h in
        let same : session_at shut u ≡ session_at σ.sessions u = get_or-set_other σ.sessions s u closed closed ne in
        let l = horizon_read d shut u a.0 (ap (λ z. z.reading) same ∙ a.1) in
        rw a.2 at l
