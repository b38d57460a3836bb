-- A begin, an opening, and what changes neither tables nor sessions: the ledger and the finds.
use Rattle.std.proofs.Common.{◌≡◌, ℕ, zero, suc, ◌<◌, ◌≤◌, Bool, true, eqb, leb, List, [], set, replicate, Some, None, Option, sym, refl, ap, ◌∙◌, inl, inr, arith}
use Rattle.std.proofs.ByRecursion.{All-set}
use Rattle.std.proofs.lemmas.List.{get_or-set_other, get_or-set_same, length-set, length-replicate}
use Rattle.std.proofs.lemmas.Bool.{cases_Bool, cases_eq, eqb-true, eq-eqb, ne_eqb, leb-true, and_parts}
use Rattle.rules.specs.declared.sheet.Mode.{Mode}
use Rattle.rules.specs.declared.sheet.Session.{Session}
use Rattle.rules.specs.declared.tables.Line.{Line}
use Rattle.rules.specs.Horizon.{horizon}
use Rattle.rules.specs.Opening.{within, in_range, opened}
use Rattle.rules.specs.Stores.{Store, Lengths, closed, opened_at, session_at, with_ledger, with_session, with_finds}
use Rattle.slots.specs.Lists.{any, kept, each}
use Rattle.versions.specs.History.{History, turn_read, begins, fresh}
use Rattle.versions.proofs.Versions.{writes_of}
use Rattle.versions.proofs.Closing.{tidy_unwritten, rel_unwritten}
use Rattle.versions.proofs.Same.{SameAt, rel_same, tidy_same}
use Rattle.cells.proofs.Horizons.{Early, horizon_low, horizon_read, horizon_open, early_closed}
use Rattle.cells.proofs.Cells.{Agree, Whole, c_empty}
use Rattle.cells.proofs.Rising.{cell_rise}
use Rattle.cells.proofs.Sessions.{writer_open, closed_turn}

closed_at : (n s : ℕ) → (session_at (replicate n closed) s).reading ≡ None
closed_at zero s = refl
closed_at (suc n) zero = refl
closed_at (suc n) (suc s) = closed_at n s

-- the clock and the last tag of an opening
range_parts : (lengths : Lengths) (clock last_tag : ℕ) → in_range lengths clock last_tag ≡ true → (1 ≤ clock) × (last_tag ≤ 4000000000)
range_parts lengths clock last_tag h =
    let hots = and_parts (within 1 65536 lengths.hots) _ h in
    let memos = and_parts (within 1 8192 lengths.memos) _ hots.1 in
    let lines = and_parts (within 1 4096 lengths.lines) _ memos.1 in
    let times = and_parts (within 1 4000000000 clock) (within 0 4000000000 last_tag) lines.1 in
    (leb-true 1 clock (and_parts (leb 1 clock) _ times.0).0, leb-true last_tag 4000000000 (and_parts (leb 0 last_tag) _ times.1).1)

module _ {K R : Type 0} (number : K → ℕ) where
  pub whole_ledger : (σ : Store K R) (T : History R) (ledger : List (Line K)) → Whole number σ T → Whole number (with_ledger σ ledger) T
  whole_ledger σ T ledger w = record {
    clock = w.clock;
    many = w.many;
    agree = w.agree;
    early = w.early;
    started = w.started;
    tags = w.tags;
    sound = w.sound;
    rel = w.rel;
    tidy = w.tidy;
  }

  pub whole_finds : (σ : Store K R) (T : History R) (finds : ℕ) → Whole number σ T → Whole number (with_finds σ finds) T
  whole_finds σ T finds w = record {
    clock = w.clock;
    many = w.many;
    agree = w.agree;
    early = w.early;
    started = w.started;
    tags = w.tags;
    sound = w.sound;
    rel = w.rel;
    tidy = w.tidy;
  }

  module _ (σ : Store K R) (T : History R) (w : Whole number σ T) (s : ℕ) (mode : Mode) (within : s < 64)
      (shut : (session_at σ.sessions s).reading ≡ None) where
    abbrev new : Session
    new = opened_at mode σ.clock

    abbrev next : List Session
    next = set σ.sessions s new

    no_turn : (u : ℕ) → u ≡ s → T.turn u ≡ None
    no_turn u e = ap T.turn e ∙ closed_turn number (session_at σ.sessions s).reading (T.turn s) (w.agree s) shut

    unwritten : (k u : ℕ) (v : Option R) (A : Type 0) → u ≡ s → writes_of T.turn u k ≡ Some v → A
    unwritten k u v A e p = absurd (let y = no_turn u e in cc (rw y at p))

    -- the new turn has written nothing
    begin_same : (k : ℕ) → SameAt T.commits T.commits T.turn (begins T s mode).turn k
    begin_same k = record {
      sees_same = λ t. refl;
      above_same = λ t. refl;
      writes_same = λ u. elim (cases_Bool (eqb u s)) [ inl q ↦ rw (q, no_turn u (eqb-true u s q)) | inr q ↦ rw q ];
      reads_same = λ u v p. elim (cases_Bool (eqb u s)) [ inl q ↦ unwritten k u v _ (eqb-true u s q) p | inr q ↦ rw q ];
    }

    begin_agree : (u : ℕ) → Agree number (session_at next u).reading ((begins T s mode).turn u)
    begin_agree u = elim (cases_eq u s) [
      | inl q ↦ rw (q, get_or-set_same σ.sessions s new closed (rw w.many within), eq-eqb s s refl) (refl, sym w.clock)
      | inr q ↦ rw (get_or-set_other σ.sessions s u new closed q, ne_eqb u s q) (w.agree u)
    ]

    begin_reads : (k u : ℕ) (v : Option R) → writes_of T.turn u k ≡ Some v → horizon σ.clock next ≤ turn_read (T.turn u)
    begin_reads k u v p = elim (cases_eq u s) [
      | inl q ↦ unwritten k u v _ q p
      | inr q ↦
          let a = writer_open number (session_at σ.sessions u).reading (T.turn u) k v (w.agree u) p in
          let same : session_at next u ≡ session_at σ.sessions u = get_or-set_other σ.sessions s u new closed q in
          let l = horizon_read σ.clock next u a.0 (ap (λ z. z.reading) same ∙ a.1) in
          rw a.2 at l
    ]

    pub whole_begin : Whole number (with_session σ s (opened_at mode σ.clock)) (begins T s mode)
    whole_begin =
        let up = horizon_open σ.clock mode σ.sessions s w.early in
        let early = All-set (Early σ.clock) σ.sessions s new (w.started, omega arith) w.early in
        record {
          clock = w.clock;
          many = length-set σ.sessions s new ∙ w.many;
          agree = begin_agree;
          early = early;
          started = w.started;
          tags = w.tags;
          sound = record {
            cells = λ k tag. cell_rise _ _ up (w.sound.cells k tag);
            unused = w.sound.unused;
            known = w.sound.known;
          };
          rel = λ k. rel_same (begin_same k) up (w.rel k);
          tidy = λ k.
              tidy_same (begin_same k) (horizon_low σ.clock next early) (omega arith) (begin_reads k) (w.tidy k).past (w.tidy k);
        }

  -- nothing is there and nothing has happened
  pub whole_opened : (lengths : Lengths) (clock last_tag limit : ℕ) (admits : ℕ → Bool)
      → in_range lengths clock last_tag ≡ true → Whole number (opened {R = R} lengths clock last_tag [] limit admits) (fresh clock)
  unfolding kept each any
  whole_opened lengths clock last_tag limit admits h =
      let range = range_parts lengths clock last_tag h in
      record {
        clock = refl;
        many = length-replicate 64 closed;
        agree = λ s. rw (closed_at 64 s) tt;
        early = early_closed 64 clock;
        started = range.0;
        tags = range.1;
        sound = record {
          cells = λ k tag. c_empty refl refl refl;
          unused = λ k tag lt. (refl, refl);
          known = λ k e. absurd cc;
        };
        rel = λ k. rel_unwritten (λ s. refl) (λ t l. refl) (λ s. refl) (λ s. refl) (λ t l. refl) tt;
        tidy = λ k. tidy_unwritten (λ s. refl) tt (horizon_low clock (replicate 64 closed) (early_closed 64 clock));
      }
