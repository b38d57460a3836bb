-- A session's write to a key: the history after it, and the frame in which put and drop are proved. The write changes
-- what is known of that key; of every other key all stays.
use Rattle.std.proofs.Common.{◌≡◌, ℕ, Bool, true, false, cond, not, ◌||◌, eqb, List, [], ◌∷◌, ◌++◌, Some, None, Option, sym, refl, ap, ◌∙◌, subst, inl, inr, arith}
use mathlib.Core.Path.{fun_ext}
use Rattle.std.specs.List.{AllByRecursion as All}
use Rattle.std.proofs.lemmas.Bool.{cases_Bool, cases_eq, eqb-true, eq-eqb, ne_eqb}
use Rattle.std.proofs.lemmas.Bool.Decides.{nat_tests}
use Rattle.rules.specs.declared.times.Moment.TheVariants as moment
use Rattle.rules.specs.declared.sheet.Reading.{Reading}
use Rattle.rules.specs.declared.tables.HotRow.{HotRow}
use Rattle.rules.specs.declared.tables.Notice.{Notice}
use Rattle.rules.specs.Looking.{conflict}
use Rattle.rules.specs.Stores.{Store, session_at, with_hot, with_memo, horizon_of}
use Rattle.rules.specs.Times.{foreign_begin, foreign_end}
use Rattle.versions.specs.History.{Turn, History, turn_writes, turn_read, upd, with_turn, wrote, had}
use Rattle.versions.proofs.Versions.{Version, v_sees, rows, Rel, Tidy, writes_of}
use Rattle.versions.proofs.Same.{SameAt, rel_same, tidy_same}
use Rattle.versions.proofs.Seeing.{CalmFor}
use Rattle.versions.proofs.OneVersion.{all_at, all_with}
use Rattle.versions.proofs.Writing.{Ready, Wrote, tidy_wrote}
use Rattle.versions.proofs.Edits.{rel_end, had_seen}
use Rattle.cells.proofs.Cells.{Sound, Agree, Whole, hot_part, cold_part, versions}
use Rattle.cells.proofs.Sessions.{Reader, reader, read_time}
use Rattle.cells.proofs.Conflicts.{no_conflict}

-- the session's own mark as an end is not foreign to it
own_end : (x y : Bool) (s : ℕ) → (x || y) ≡ false → (x || not (eqb s s)) ≡ false
own_end x y s h = grind (arith, nat_tests)

upd_twice : {Y : Type 0} (f : ℕ → Y) (s : ℕ) (a d : Y) → upd (upd f s a) s d ≡ upd f s d
upd_twice f s a d = fun_ext (λ n. go n (eqb n s))
  where
    go : (n : ℕ) (t : Bool) → cond t d (cond t a (f n)) ≡ cond t d (f n)
    go n true = refl
    go n false = refl

upd_same : {Y : Type 0} (f : ℕ → Y) (s : ℕ) (a : Y) → f s ≡ a → upd f s a ≡ f
upd_same f s a h = fun_ext (λ n. elim (cases_Bool (eqb n s)) [ inl q ↦ rw (q, eqb-true n s q) (sym h) | inr q ↦ rw q ])

module _ {R : Type 0} where
  -- the history in which session s has v on key number k
  abbrev pub writes_to : History R → ℕ → ℕ → Option (Option R) → History R
  writes_to T s k v = with_turn T s (wrote (T.turn s) k v)

  -- the parts that a write changes
  abbrev with_writes : Turn R → (ℕ → Option (Option R)) → Turn R
  with_writes x f = record { mode = x.mode; read = x.read; writes = f }

  abbrev with_turns : History R → (ℕ → Option (Turn R)) → History R
  with_turns T f = record { clock = T.clock; commits = T.commits; turn = f }

  module _ (T : History R) (s k : ℕ) (x : Turn R) (has : T.turn s ≡ Some x) where
    wrote_at : (v : Option (Option R)) → Wrote T.turn (writes_to T s k v).turn s k v
    wrote_at v = record {
      its = rw (eq-eqb s s refl, has, eq-eqb k k refl);
      read = rw (eq-eqb s s refl, has);
      others = λ m ne. rw (ne_eqb m s ne);
    }

    -- of another key the two histories say the same
    same_at : (v : Option (Option R)) (j : ℕ) → (j ≡ k → ⊥) → SameAt T.commits T.commits T.turn (writes_to T s k v).turn j
    same_at v j ne = record {
      sees_same = λ t. refl;
      above_same = λ t. refl;
      writes_same = λ m. elim (cases_Bool (eqb m s)) [ inl q ↦ rw (q, eqb-true m s q, has, ne_eqb j k ne) | inr q ↦ rw q ];
      reads_same = λ m u h. elim (cases_Bool (eqb m s)) [ inl q ↦ rw (q, eqb-true m s q, has) | inr q ↦ rw q ];
    }

    -- a second write covers the first
    pub writes_twice : (a d : Option (Option R)) → writes_to (writes_to T s k a) s k d ≡ writes_to T s k d
    writes_twice a d =
        let between : (writes_to T s k a).turn s ≡ Some (with_writes x (upd x.writes k a)) = rw (eq-eqb s s refl, has) in
        let last : wrote ((writes_to T s k a).turn s) k d ≡ wrote (T.turn s) k d =
        ap (λ o. wrote o k d) between
        ∙ (ap (λ f. Some (with_writes x f)) (upd_twice x.writes k a d) ∙ ap (λ o. wrote o k d) (sym has)) in
        ap (with_turns T)
        (ap (λ o. upd (writes_to T s k a).turn s o) last ∙ upd_twice T.turn s (wrote (T.turn s) k a) (wrote (T.turn s) k d))

    -- and a write of what is there changes nothing
    pub writes_same : writes_to T s k (writes_of T.turn s k) ≡ T
    writes_same =
        let v : Option (Option R) = writes_of T.turn s k in
        let there : x.writes k ≡ v = ap (λ o. turn_writes o k) (sym has) in
        let same : wrote (T.turn s) k v ≡ T.turn s =
        ap (λ o. wrote o k v) has ∙ (ap (λ f. Some (with_writes x f)) (upd_same x.writes k v there) ∙ sym has) in
        ap (with_turns T) (upd_same T.turn s (wrote (T.turn s) k v) (sym same))

module _ {K R : Type 0} (number : K → ℕ) where
  -- session s is open, and the key is not in conflict for it
  pub record MayWrite (σ : Store K R) (T : History R) (s : ℕ) (key : K) : Type 0 where
    pub whole : Whole number σ T
    pub reader : Reader number σ T s
    pub calm : All (CalmFor s (turn_read (T.turn s))) (versions number σ (number key))

  pub may_write : (σ : Store K R) (T : History R) → Whole number σ T
      → (s : ℕ) (r : Reading) → (session_at σ.sessions s).reading ≡ Some r
      → (key : K) → conflict number σ s r.time (number key) ≡ false → MayWrite σ T s key
  may_write σ T w s r reads key free =
      let o = reader number σ T w s r reads in
      let now : conflict number σ s (turn_read (T.turn s)) (number key) ≡ false = rw (read_time number σ T w s r reads) free in
      record { whole = w; reader = o; calm = no_conflict number σ s (turn_read (T.turn s)) (number key) o.late now }

  -- the key is ended for the session: it may write, it sees nothing, and its write is what a drop writes
  pub record Freed (T : History R) (s : ℕ) (key : K) (τ : Store K R) (v : Option (Option R)) : Type 0 where
    pub may : MayWrite τ (writes_to T s (number key) v) s key
    pub unseen : rows (v_sees s (turn_read ((writes_to T s (number key) v).turn s))) (versions number τ (number key)) ≡ []
    pub fits : v ≡ cond (had T s (number key)) (Some None) None

  wrote_agree : (a : Option Reading) (o : Option (Turn R)) (k : ℕ) (v : Option (Option R)) → Agree number a o → Agree number a (wrote o k v)
  wrote_agree None None k v h = tt
  wrote_agree None (Some y) k v h = elim h [ ]
  wrote_agree (Some r) None k v h = elim h [ ]
  wrote_agree (Some r) (Some y) k v h = h

  module _ {σ : Store K R} {T : History R} {s : ℕ} {key : K} (m : MayWrite σ T s key) where
    abbrev k : ℕ
    k = number key

    abbrev time : ℕ
    time = turn_read (T.turn s)

    abbrev low : ℕ
    low = horizon_of σ

    abbrev w : Whole number σ T
    w = m.whole

    abbrev o : Reader number σ T s
    o = m.reader

    abbrev after : Option (Option R) → History R
    after v = writes_to T s k v

    pub written : (v : Option (Option R)) → Wrote T.turn (after v).turn s k v
    written v = wrote_at T s k o.turn o.has v

    pub ready : Ready low σ.clock T.commits T.turn k s (versions number σ k)
    ready = record { tidy = w.tidy k; rel = w.rel k; from = o.from; upto = o.upto; calm = m.calm }

    tidy_write : (v : Option (Option R)) → (v ≡ Some None → had T s k ≡ true)
        → (j : ℕ) → Tidy low σ.clock T.commits (after v).turn j
    tidy_write v hd j = elim (cases_eq j k) [
      | inl q ↦
          subst (λ z. Tidy low σ.clock T.commits (after v).turn z) (sym q)
          (tidy_wrote ready (written v) hd)
      | inr q ↦
          tidy_same (same_at T s k o.turn o.has v j q) (w.tidy j).low (omega arith)
          (λ u y p. ((w.tidy j).reads u y p).0) (w.tidy j).past (w.tidy j)
    ]

    rel_write : (v : Option (Option R)) (V : ℕ → List (Version R)) → Rel low T.commits (after v).turn k (V k)
        → ((j : ℕ) → (j ≡ k → ⊥) → V j ≡ versions number σ j) → (j : ℕ) → Rel low T.commits (after v).turn j (V j)
    rel_write v V r same j = elim (cases_eq j k) [
      | inl q ↦ subst (λ z. Rel low T.commits (after v).turn z (V z)) (sym q) r
      | inr q ↦ rw (same j q) (rel_same (same_at T s k o.turn o.has v j q) (omega arith) (w.rel j))
    ]

    agree_write : (v : Option (Option R)) (u : ℕ) → Agree number (session_at σ.sessions u).reading ((after v).turn u)
    agree_write v u = elim (cases_Bool (eqb u s)) [
      | inl q ↦
          rw q (subst (λ z. Agree number (session_at σ.sessions z).reading (wrote (T.turn s) k v)) (sym (eqb-true u s q))
          (wrote_agree (session_at σ.sessions s).reading (T.turn s) k v (w.agree s)))
      | inr q ↦ rw q (w.agree u)
    ]

    -- the versions of a key where the tables are hot and memo
    abbrev pub versions_of : List (HotRow K R) → List (Notice K) → ℕ → List (Version R)
    versions_of hot memo j = hot_part number hot j ++ cold_part number memo σ.cold j

    -- the whole relation, from the parts that a write changes
    pub whole_write : (v : Option (Option R)) → (v ≡ Some None → had T s k ≡ true) → (hot : List (HotRow K R)) (memo : List (Notice K))
        → Sound number low σ.last_tag σ.admits hot memo σ.cold
        → Rel low T.commits (after v).turn k (versions_of hot memo k)
        → ((j : ℕ) → (j ≡ k → ⊥) → versions_of hot memo j ≡ versions number σ j)
        → Whole number (with_memo (with_hot σ hot) memo) (after v)
    whole_write v hd hot memo so r same = record {
      clock = w.clock;
      many = w.many;
      agree = agree_write v;
      early = w.early;
      started = w.started;
      tags = w.tags;
      sound = so;
      rel = rel_write v (versions_of hot memo) r same;
      tidy = tidy_write v hd;
    }

    -- one version that is seen gets the session's mark as its end: the key is then ended for the session
    pub freed_by : (hot : List (HotRow K R)) (memo : List (Notice K)) (front : List (Version R)) (v : Version R) (back : List (Version R))
        → versions number σ k ≡ front ++ (v ∷ back)
        → versions_of hot memo k ≡ front ++ (record { begin = v.begin; end = Some (moment.Mark s); row = v.row } ∷ back)
        → v_sees s time v ≡ true → writes_of T.turn s k ≡ None
        → Sound number low σ.last_tag σ.admits hot memo σ.cold
        → ((j : ℕ) → (j ≡ k → ⊥) → versions_of hot memo j ≡ versions number σ j)
        → Freed T s key (with_memo (with_hot σ hot) memo) (Some None)
    freed_by hot memo front v back was now seen none so same =
        let calm : All (CalmFor s time) (front ++ (v ∷ back)) = rw was at m.calm in
        let split : Ready low σ.clock T.commits T.turn k s (front ++ (v ∷ back)) = rw was at ready in
        let had = had_seen front v back split seen none in
        let ended = rel_end front v back split seen none (written (Some None)) in
        let whole = whole_write (Some None) (λ h. had) hot memo so (rw now ended) same in
        let read = (written (Some None)).read in
        let still : All (CalmFor s time) (versions_of hot memo k) =
        rw now (all_with front v _ back (CalmFor s time) calm
        (own_end (foreign_begin v.begin s time) (foreign_end v.end s time) s (all_at front v back (CalmFor s time) calm))) in
        record {
          may = record {
            whole = whole;
            reader = record {
              turn = with_writes o.turn (upd o.turn.writes k (Some None));
              has = rw (eq-eqb s s refl, o.has);
              from = rw read o.from;
              upto = rw read o.upto;
              late = rw read o.late;
            };
            calm = subst (λ t. All (CalmFor s t) (versions_of hot memo k)) (sym read) still;
          };
          unseen = (whole.rel k).mine s None (written (Some None)).its _ (omega arith);
          fits = rw had;
        }
