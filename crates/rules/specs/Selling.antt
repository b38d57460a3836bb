-- The seller calls, one definition each: from the store and the call's inputs to the answer and the store after.
-- Causes of refusal stand in the order in which they are tried.
use Rattle.std.specs.Prelude.{ℕ, ◌+◌, Bool, true, false, cond, not, ◌&&◌, ◌||◌, List, [], ◌++◌, map, is_some, Some, None, Option, ◌==◌, nat_le, nat_lt, unwrap_or}
use Rattle.slots.specs.Lists.{any, at_first, each, kept, one}
use Rattle.rules.specs.declared.times.Moment.TheVariants as moment
use Rattle.rules.specs.declared.tables.MoveMark.TheVariants.{Unmoved}
use Rattle.rules.specs.declared.tables.HotRow.{HotRow}
use Rattle.rules.specs.declared.tables.Kind.{Kind}
use Rattle.rules.specs.declared.tables.Kind.TheVariants.{E}
use Rattle.rules.specs.declared.tables.Notice.{Notice}
use Rattle.rules.specs.declared.tables.Line.{Line}
use Rattle.rules.specs.declared.sheet.Mode.{Mode}
use Rattle.rules.specs.declared.sheet.Mode.TheVariants.{Plain, Checked}
use Rattle.rules.specs.declared.notices.NoticeEvent.TheVariants.{Ending, Abandon}
use Rattle.rules.specs.declared.answers.Side.TheVariants.{Seller}
use Rattle.rules.specs.declared.answers.Refusal.TheVariants as refusal
use Rattle.rules.specs.declared.answers.Answer.TheVariants as answer
use Rattle.rules.specs.Times.{begin_marked, end_marked, stamp_begin, stamp_end, reopen}
use Rattle.rules.specs.Notices.{becomes}
use Rattle.rules.specs.Stores.{Store, Lengths, closed, opened_at, session_at, with_hot, with_memo, with_ledger, with_session, with_clock, with_finds, hot_full, memo_full, ledger_full}
use Rattle.rules.specs.Outcomes.{Outcome, served, refused, untold, if_open, if_lent, for_session}
use Rattle.rules.specs.Looking.{is_for, notice_for, hot_sees, conflict, above, Seen, hot_one, cold_one, nothing, Looked, looked, row_of}

-- Begin.

module _ {K R : Type 0} where
  abbrev pub begin_rule : Lengths → Store K R → ℕ → Mode → Outcome K R
  begin_rule lent σ s mode =
      if_lent Seller lent σ σ
      (cond (nat_lt 63 s) (refused refusal.NoSession σ)
      (if_open (session_at σ.sessions s).reading (λ _ _. refused refusal.AlreadyOpen σ)
      (served answer.Done (with_session σ s (opened_at mode σ.clock)))))

-- The ledger: a checked session's line for a key is entered once.

abbrev pub is_checked : Mode → Bool
is_checked Plain = false
is_checked Checked = true

module _ {K : Type 0} (number : K → ℕ) where
  abbrev pub line_for : ℕ → ℕ → Line K → Bool
  line_for s k l = l.session == s && number l.key == k

module _ {K R : Type 0} (number : K → ℕ) where
  abbrev pub new_line : Store K R → Mode → ℕ → ℕ → Bool
  new_line σ mode s k = is_checked mode && not (any (line_for number s k) σ.ledger)

  abbrev pub noted : Store K R → Mode → ℕ → K → Store K R
  noted σ mode s key =
      with_ledger σ
      (cond (new_line σ mode s (number key)) (σ.ledger ++ one (record { session = s; key = key })) σ.ledger)

  -- Read.

  abbrev pub read_rule : Lengths → Store K R → ℕ → K → Outcome K R
  read_rule lent σ s key =
      if_lent Seller lent σ (untold σ) (for_session σ (untold σ) s λ mode t.
      cond (new_line σ mode s (number key) && ledger_full σ) (refused refusal.LedgerFull (untold σ))
      (served (answer.Row (row_of (looked number σ s t (number key)).seen))
      (noted (with_finds σ (looked number σ s t (number key)).finds) mode s key)))

-- Ending a version: with the session's mark as end.

module _ {K R : Type 0} where
  -- a hot row's move mark is cleared
  abbrev pub end_row : ℕ → HotRow K R → HotRow K R
  end_row s h = record { key = h.key; row = h.row; begin = h.begin; end = Some (moment.Mark s); mark = Unmoved }

-- the kind after an event that takes no notice out
abbrev pub kind_or : Kind → Option Kind → Kind
kind_or kind after = unwrap_or after kind

module _ {K : Type 0} where
  abbrev pub end_notice : ℕ → Notice K → Notice K
  end_notice s n =
      record { key = n.key; tag = n.tag; kind = kind_or n.kind (becomes n.kind Ending); begin = n.begin; end = Some (moment.Mark s) }

  abbrev pub new_end : ℕ → K → ℕ → Notice K
  new_end s key tag = record { key = key; tag = tag; kind = E; begin = 1; end = Some (moment.Mark s) }

module _ {K : Type 0} (number : K → ℕ) where
  -- a cold entry's notice is turned, or an E notice is added
  abbrev pub end_entry : Option (Notice K) → List (Notice K) → ℕ → K → ℕ → List (Notice K)
  end_entry None memo s key tag = memo ++ one (new_end s key tag)
  end_entry (Some n) memo s key tag = at_first (is_for number (number key) tag) (λ x. one (end_notice s x)) memo

module _ {K R : Type 0} (number : K → ℕ) where
  abbrev pub end_seen : Store K R → ℕ → ℕ → K → Seen K R → Store K R
  end_seen σ s t key (hot_one h) =
      with_hot σ (at_first (hot_sees number s t (number key)) (λ x. one (end_row s x)) σ.hot)
  end_seen σ s t key (cold_one c) =
      with_memo σ (end_entry number (notice_for number σ.memo (number key) c.tag) σ.memo s key c.tag)
  end_seen σ s t key nothing = σ

  -- ending it asks for a new notice
  abbrev pub wants_notice : Store K R → ℕ → Seen K R → Bool
  wants_notice σ k (hot_one h) = false
  wants_notice σ k (cold_one c) = not (is_some (notice_for number σ.memo k c.tag))
  wants_notice σ k nothing = false

  -- the session's own unfinished version
  abbrev pub hot_own : ℕ → ℕ → HotRow K R → Bool
  hot_own s k h = number h.key == k && begin_marked h.begin s

-- Put.

module _ {K R : Type 0} where
  abbrev pub with_row : R → HotRow K R → HotRow K R
  with_row row h = record { key = h.key; row = row; begin = h.begin; end = h.end; mark = h.mark }

  abbrev pub new_row : ℕ → K → R → HotRow K R
  new_row s key row = record { key = key; row = row; begin = moment.Mark s; end = None; mark = Unmoved }

  abbrev pub push_hot : Store K R → HotRow K R → Store K R
  push_hot σ h = with_hot σ (σ.hot ++ one h)

module _ {K R : Type 0} (number : K → ℕ) where
  abbrev pub replace_own : Store K R → ℕ → K → R → Store K R
  replace_own σ s key row = with_hot σ (at_first (hot_own number s (number key)) (λ x. one (with_row row x)) σ.hot)

  abbrev pub put_seen : Store K R → ℕ → ℕ → K → R → Looked K R → Outcome K R
  put_seen σ s t key row l =
      cond (wants_notice number σ (number key) l.seen && memo_full σ) (refused (refusal.MemoFull Seller) (untold σ))
      (served answer.Done (push_hot (end_seen number (with_finds σ l.finds) s t key l.seen) (new_row s key row)))

  abbrev pub put_rule : Lengths → Store K R → ℕ → K → R → Outcome K R
  put_rule lent σ s key row =
      if_lent Seller lent σ (untold σ) (for_session σ (untold σ) s λ mode t.
      cond (conflict number σ s t (number key)) (refused refusal.Conflict (untold σ))
      (cond (any (hot_own number s (number key)) σ.hot) (served answer.Done (replace_own (untold σ) s key row))
      (cond (hot_full σ) (refused refusal.HotFull (untold σ))
      (put_seen σ s t key row (looked number σ s t (number key))))))

-- Drop.

module _ {K R : Type 0} (number : K → ℕ) where
  abbrev pub drop_own : Store K R → ℕ → K → Store K R
  drop_own σ s key = with_hot σ (at_first (hot_own number s (number key)) (λ x. []) σ.hot)

  abbrev pub drop_seen : Store K R → Mode → ℕ → ℕ → K → Looked K R → Outcome K R
  drop_seen σ mode s t key l =
      cond (wants_notice number σ (number key) l.seen && memo_full σ) (refused (refusal.MemoFull Seller) (untold σ))
      (served (answer.Was (is_some (row_of l.seen)))
      (noted number (end_seen number (with_finds σ l.finds) s t key l.seen) mode s key))

  abbrev pub drop_rule : Lengths → Store K R → ℕ → K → Outcome K R
  drop_rule lent σ s key =
      if_lent Seller lent σ (untold σ) (for_session σ (untold σ) s λ mode t.
      cond (conflict number σ s t (number key)) (refused refusal.Conflict (untold σ))
      (cond (new_line number σ mode s (number key) && ledger_full σ) (refused refusal.LedgerFull (untold σ))
      (cond (any (hot_own number s (number key)) σ.hot)
      (served (answer.Was true) (noted number (drop_own (untold σ) s key) mode s key))
      (drop_seen σ mode s t key (looked number σ s t (number key))))))

-- Commit and abandon.

module _ {K R : Type 0} where
  abbrev pub hot_marked : ℕ → HotRow K R → Bool
  hot_marked s h = begin_marked h.begin s || end_marked h.end s

  abbrev pub stamp_row : ℕ → ℕ → HotRow K R → HotRow K R
  stamp_row s c h =
      record { key = h.key; row = h.row; begin = stamp_begin s c h.begin; end = stamp_end s c h.end; mark = h.mark }

  -- a row that the session began goes; an end with its mark is open again
  abbrev pub undo_row : ℕ → HotRow K R → List (HotRow K R)
  undo_row s h =
      cond (begin_marked h.begin s) []
      (one (record { key = h.key; row = h.row; begin = h.begin; end = reopen s h.end; mark = h.mark }))

module _ {K : Type 0} where
  abbrev pub notice_marked : ℕ → Notice K → Bool
  notice_marked s n = end_marked n.end s

  abbrev pub stamp_notice : ℕ → ℕ → Notice K → Notice K
  stamp_notice s c n = record { key = n.key; tag = n.tag; kind = n.kind; begin = n.begin; end = stamp_end s c n.end }

  -- a notice whose end is undone: taken out, or of another kind with an open end
  abbrev pub unended : Notice K → Option Kind → List (Notice K)
  unended n None = []
  unended n (Some kind) = one (record { key = n.key; tag = n.tag; kind = kind; begin = n.begin; end = None })

  abbrev pub undo_notice : ℕ → Notice K → List (Notice K)
  undo_notice s n = cond (notice_marked s n) (unended n (becomes n.kind Abandon)) (one n)

  abbrev pub line_stays : ℕ → Line K → Bool
  line_stays s l = not (l.session == s)

module _ {K R : Type 0} where
  -- the session has a mark on a hot row or a notice
  abbrev pub has_marks : Store K R → ℕ → Bool
  has_marks σ s = any (hot_marked s) σ.hot || any (notice_marked s) σ.memo

  -- its ledger lines are taken out, and it is closed
  abbrev pub close : Store K R → ℕ → Store K R
  close σ s = with_session (with_ledger σ (kept (line_stays s) σ.ledger)) s closed

  -- its marks become the stamp c, which is the clock from then on
  abbrev pub stamped : Store K R → ℕ → ℕ → Store K R
  stamped σ s c =
      with_clock (with_memo (with_hot σ (map (stamp_row s c) σ.hot)) (map (stamp_notice s c) σ.memo)) c

  abbrev pub undone : Store K R → ℕ → Store K R
  undone σ s = with_memo (with_hot σ (each (undo_row s) σ.hot)) (each (undo_notice s) σ.memo)

  abbrev pub abandon_rule : Lengths → Store K R → ℕ → Outcome K R
  abandon_rule lent σ s =
      if_lent Seller lent σ σ (for_session σ σ s λ mode t. served answer.Done (close (undone σ s) s))

module _ {K R : Type 0} (number : K → ℕ) where
  -- a key that the session looked at has a stamp above its read time
  abbrev pub stale_line : Store K R → ℕ → ℕ → Line K → Bool
  stale_line σ s t l = l.session == s && above number σ t (number l.key)

  abbrev pub stale : Store K R → Mode → ℕ → ℕ → Bool
  stale σ mode s t = is_checked mode && any (stale_line σ s t) σ.ledger

  abbrev pub commit_rule : Lengths → Store K R → ℕ → Outcome K R
  commit_rule lent σ s =
      if_lent Seller lent σ σ (for_session σ σ s λ mode t.
      cond (not (has_marks σ s)) (served (answer.At 0) (close σ s))
      (cond (stale σ mode s t) (refused refusal.StaleRead (close (undone σ s) s))
      (cond (nat_le 4000000000 σ.clock) (refused refusal.ClockAtEnd σ)
      (served (answer.At (σ.clock + 1)) (close (stamped σ s (σ.clock + 1)) s)))))
