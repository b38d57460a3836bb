-- Twins: two stores of one history whose ledgers say the same. What a seller call asks of a store, twins answer alike.
use Rattle.std.proofs.Common.{◌≡◌, ℕ, Bool, true, false, cond, not, ◌&&◌, eqb, List, [], ◌∷◌, ◌++◌, map, length, Some, None, Option, sym, refl, ap, ◌∙◌, subst, inl, inr}
use mathlib.Core.List.{map-append}
use lib.ListN.{length-map}
use Rattle.std.proofs.lemmas.Bool.{cases_Bool}
use Rattle.slots.specs.Lists.{any, kept, one}
use Rattle.slots.proofs.Folds.{any_map, any_same, all_every}
use Rattle.rules.specs.declared.sheet.Mode.{Mode}
use Rattle.rules.specs.declared.sheet.Reading.{Reading}
use Rattle.rules.specs.declared.tables.Line.{Line}
use Rattle.rules.specs.Stores.{Store, session_at, ledger_full}
use Rattle.rules.specs.Looking.{conflict, looked, row_of}
use Rattle.rules.specs.Selling.{is_checked, new_line, noted, close, has_marks, stale_line, stale}
use Rattle.versions.specs.History.{Turn, History, turn_read}
use Rattle.versions.proofs.Versions.{writes_of, wrote_above}
use Rattle.cells.proofs.Cells.{Agree, Whole}
use Rattle.cells.proofs.Sessions.{Reader, reader, read_time}
use Rattle.cells.proofs.Looking.{lookup_is}
use Rattle.cells.proofs.Conflicts.{conflict_same}
use Rattle.cells.proofs.Traces.{bool_eq, above_is, marked_none, none_marked}

map_kept : {X Y : Type 0} (f : X → Y) (p : Y → Bool) (xs : List X) → map f (kept (λ x. p (f x)) xs) ≡ kept p (map f xs)
unfolding kept
map_kept f p [] = refl
map_kept f p (x ∷ xs) = elim (cases_Bool (p (f x))) [
  | inl y ↦ rw y (ap (λ z. f x ∷ z) (map_kept f p xs))
  | inr y ↦ rw y (map_kept f p xs)
]

module _ {K : Type 0} (number : K → ℕ) where
  -- what a line of a ledger says: a session and a key number
  abbrev said : Line K → ℕ × ℕ
  said l = (l.session, number l.key)

  abbrev pub all_said : List (Line K) → List (ℕ × ℕ)
  all_said = map said

module _ {K R : Type 0} (number : K → ℕ) where
  -- ledgers that have as many slots and say the same
  abbrev pub SameLedger : Store K R → Store K R → Type 0
  SameLedger σ τ = (σ.lengths.lines ≡ τ.lengths.lines) × (all_said number σ.ledger ≡ all_said number τ.ledger)

  -- a ledger alone tells whether a line is new and whether no slot is left, and what it says with a line noted or a
  -- session's lines taken out
  module _ (σ τ : Store K R) (same : SameLedger σ τ) where
    same_any : (p : ℕ × ℕ → Bool) → any (λ l. p (said number l)) σ.ledger ≡ any (λ l. p (said number l)) τ.ledger
    same_any p = sym (any_map p (said number) σ.ledger) ∙ (ap (any p) same.1 ∙ any_map p (said number) τ.ledger)

    pub same_new : (mode : Mode) (s k : ℕ) → new_line number σ mode s k ≡ new_line number τ mode s k
    same_new mode s k = ap (λ z. is_checked mode && not z) (same_any (λ z. eqb z.0 s && eqb z.1 k))

    pub same_full : ledger_full σ ≡ ledger_full τ
    same_full =
        let long : length σ.ledger ≡ length τ.ledger =
        sym (length-map σ.ledger (said number)) ∙ (ap length same.1 ∙ length-map τ.ledger (said number)) in
        rw (same.0, long)

    pub same_noted : (mode : Mode) (s : ℕ) (key : K) → SameLedger (noted number σ mode s key) (noted number τ mode s key)
    same_noted mode s key = (same.0, rw (same_new mode s (number key)) (go (new_line number τ mode s (number key))))
      where
        line : Line K
        line = record { session = s; key = key }

        go : (t : Bool) → all_said number (cond t (σ.ledger ++ one line) σ.ledger) ≡ all_said number (cond t (τ.ledger ++ one line) τ.ledger)
        go true = map-append _ σ.ledger _ ∙ (ap (λ z. z ++ one (said number line)) same.1 ∙ sym (map-append _ τ.ledger _))
        go false = same.1

    pub same_close : (s : ℕ) → SameLedger (close σ s) (close τ s)
    same_close s =
        let others : ℕ × ℕ → Bool = λ z. not (eqb z.0 s) in
        (same.0, map_kept (said number) others σ.ledger ∙ (ap (kept others) same.1 ∙ sym (map_kept (said number) others τ.ledger)))

  -- two session entries that agree with one turn
  agreed : (x y : Option Reading) (o : Option (Turn R)) → Agree number x o → Agree number y o → x ≡ y
  agreed None None o a c = refl
  agreed None (Some r) None a c = elim c [ ]
  agreed None (Some r) (Some t) a c = elim a [ ]
  agreed (Some q) None None a c = elim a [ ]
  agreed (Some q) None (Some t) a c = elim c [ ]
  agreed (Some q) (Some r) None a c = elim a [ ]
  agreed (Some q) (Some r) (Some t) a c =
      ap (λ z. Some (record { mode = z; time = q.time })) (sym a.0 ∙ c.0)
      ∙ ap (λ z. Some (record { mode = r.mode; time = z })) (sym a.1 ∙ c.1)

  pub record Twins (σ τ : Store K R) (T : History R) : Type 0 where
    pub here : Whole number σ T
    pub there : Whole number τ T
    pub ledger : SameLedger σ τ

  module _ {σ τ : Store K R} {T : History R} (twins : Twins σ τ T) where
    pub same_clock : σ.clock ≡ τ.clock
    same_clock = twins.here.clock ∙ sym twins.there.clock

    pub same_reading : (s : ℕ) → (session_at σ.sessions s).reading ≡ (session_at τ.sessions s).reading
    same_reading s = agreed _ _ (T.turn s) (twins.here.agree s) (twins.there.agree s)

    -- a session has marks where it has writes
    pub same_marks : (s : ℕ) → has_marks σ s ≡ has_marks τ s
    same_marks s =
        bool_eq _ _
        (λ none. none_marked number τ T twins.there s (λ k. marked_none number σ T twins.here s k none (writes_of T.turn s k) refl))
        (λ none. none_marked number σ T twins.here s (λ k. marked_none number τ T twins.there s k none (writes_of T.turn s k) refl))

    -- an open session
    module _ (s : ℕ) (r : Reading) (reads : (session_at σ.sessions s).reading ≡ Some r) where
      pub at_twin : (session_at τ.sessions s).reading ≡ Some r
      at_twin = sym (same_reading s) ∙ reads

      abbrev sees_here : Reader number σ T s
      sees_here = reader number σ T twins.here s r reads

      abbrev sees_there : Reader number τ T s
      sees_there = reader number τ T twins.there s r at_twin

      time : turn_read (T.turn s) ≡ r.time
      time = read_time number σ T twins.here s r reads

      pub same_row : (k : ℕ) → row_of (looked number σ s r.time k).seen ≡ row_of (looked number τ s r.time k).seen
      same_row k = lookup_is number σ T twins.here s r k reads ∙ sym (lookup_is number τ T twins.there s r k at_twin)

      pub same_conflict : (k : ℕ) → conflict number σ s r.time k ≡ conflict number τ s r.time k
      same_conflict k =
          subst (λ t. conflict number σ s t k ≡ conflict number τ s t k) time
          (bool_eq _ _
          (conflict_same number τ σ T s k twins.there twins.here sees_there.from sees_here.from sees_here.late sees_here.upto)
          (conflict_same number σ τ T s k twins.here twins.there sees_here.from sees_there.from sees_there.late sees_there.upto))

      pub same_stale : stale number σ r.mode s r.time ≡ stale number τ r.mode s r.time
      same_stale =
          subst (λ t. stale number σ r.mode s t ≡ stale number τ r.mode s t) time
          (ap (λ z. is_checked r.mode && z)
          (written σ twins.here sees_here ∙ (same_any σ τ twins.ledger above ∙ sym (written τ twins.there sees_there))))
        where
          above : ℕ × ℕ → Bool
          above z = eqb z.0 s && wrote_above T.commits (turn_read (T.turn s)) z.1

          -- a line is stale where the history wrote its key above the read time
          written : (ρ : Store K R) → Whole number ρ T → Reader number ρ T s
              → any (stale_line number ρ s (turn_read (T.turn s))) ρ.ledger ≡ any (λ l. above (said number l)) ρ.ledger
          written ρ w o =
              any_same _ _ ρ.ledger (all_every _ ρ.ledger (λ l.
              ap (λ z. eqb l.session s && z) (above_is number ρ T w (turn_read (T.turn s)) (number l.key) o.from o.late)))
