-- The move calls, sweep and collect, one definition each.
use Rattle.std.specs.Prelude.{◌≡◌, ℕ, ◌+◌, Bool, true, false, cond, not, ◌&&◌, [], ◌++◌, Some, None, Ok, Err, Option, Result, ◌==◌, nat_le}
use Rattle.slots.specs.Lists.{any, first, at_first, kept, one}
use Rattle.cold.specs.Cold.{put_answer, put_after, removed_after}
use Rattle.cold.specs.declared.store.ColdRefusal.{ColdRefusal}
use Rattle.rules.specs.declared.tables.MoveMark.{MoveMark}
use Rattle.rules.specs.declared.tables.MoveMark.TheVariants.{Unmoved, Chosen, Copied}
use Rattle.rules.specs.declared.tables.HotRow.{HotRow}
use Rattle.rules.specs.declared.tables.Kind.{Kind}
use Rattle.rules.specs.declared.tables.Kind.TheVariants.{N, B, E, BE, X}
use Rattle.rules.specs.declared.tables.Notice.{Notice}
use Rattle.rules.specs.declared.notices.NoticeEvent.TheVariants.{Settle, Empty}
use Rattle.rules.specs.declared.answers.Side.TheVariants.{Mover}
use Rattle.rules.specs.declared.answers.Swept.TheVariants.{Gone, Emptied, NoneDue}
use Rattle.rules.specs.declared.answers.Refusal.TheVariants as refusal
use Rattle.rules.specs.declared.answers.Answer.TheVariants as answer
use Rattle.rules.specs.Times.{stamped_begin, open_end, begin_stamp, end_past}
use Rattle.rules.specs.Notices.{becomes, due_kind}
use Rattle.rules.specs.Stores.{Store, Lengths, with_hot, with_memo, with_last_tag, with_cold, with_admits, horizon_of, memo_full}
use Rattle.rules.specs.Outcomes.{Outcome, served, refused, if_lent}
use Rattle.rules.specs.Looking.{is_for}
use Rattle.rules.specs.Selling.{kind_or}

-- the mark says chosen with the tag, copied with it, either, or nothing
abbrev pub is_chosen : MoveMark → ℕ → Bool
is_chosen Unmoved tag = false
is_chosen (Chosen x) tag = x == tag
is_chosen (Copied x) tag = false

abbrev pub is_copied : MoveMark → ℕ → Bool
is_copied Unmoved tag = false
is_copied (Chosen x) tag = false
is_copied (Copied x) tag = x == tag

abbrev pub bears : MoveMark → ℕ → Bool
bears Unmoved tag = false
bears (Chosen x) tag = x == tag
bears (Copied x) tag = x == tag

abbrev pub unmoved : MoveMark → Bool
unmoved Unmoved = true
unmoved (Chosen x) = false
unmoved (Copied x) = false

module _ {K R : Type 0} where
  abbrev pub with_mark : MoveMark → HotRow K R → HotRow K R
  with_mark mark h = record { key = h.key; row = h.row; begin = h.begin; end = h.end; mark = mark }

  abbrev pub row_chosen : ℕ → HotRow K R → Bool
  row_chosen tag h = is_chosen h.mark tag

  abbrev pub row_copied : ℕ → HotRow K R → Bool
  row_copied tag h = is_copied h.mark tag

  abbrev pub row_bears : ℕ → HotRow K R → Bool
  row_bears tag h = bears h.mark tag

-- Choose.

abbrev pub new_pending : {K : Type 0} → K → ℕ → Notice K
new_pending key tag = record { key = key; tag = tag; kind = N; begin = 1; end = None }

module _ {K R : Type 0} (number : K → ℕ) where
  -- a row that may move: a stamp as begin, and an open end
  abbrev pub movable : ℕ → HotRow K R → Bool
  movable k h = number h.key == k && (stamped_begin h.begin && open_end h.end)

  abbrev pub chosen : Store K R → K → ℕ → Store K R
  chosen σ key tag =
      with_last_tag
      (with_memo (with_hot σ (at_first (movable (number key)) (λ x. one (with_mark (Chosen tag) x)) σ.hot))
      (σ.memo ++ one (new_pending key tag)))
      tag

  abbrev pub choose_row : Store K R → K → Option (HotRow K R) → Outcome K R
  choose_row σ key None = refused refusal.NoRow σ
  choose_row σ key (Some h) =
      cond (not (unmoved h.mark)) (refused refusal.AlreadyMarked σ)
      (cond (nat_le 4000000000 σ.last_tag) (refused refusal.TagsAtEnd σ)
      (cond (memo_full σ) (refused (refusal.MemoFull Mover) σ)
      (served (answer.Tag (σ.last_tag + 1)) (chosen σ key (σ.last_tag + 1)))))

  abbrev pub choose_rule : Lengths → Store K R → K → Outcome K R
  choose_rule lent σ key = if_lent Mover lent σ σ (choose_row σ key (first (movable (number key)) σ.hot))

-- Copy. The filter's set after the number was added is `admits`: any set with that number and all that there was.

-- a set with a number and all that there was
abbrev pub HasMore : ℕ → (ℕ → Bool) → (ℕ → Bool) → Type 0
HasMore n old new = (new n ≡ true) × ((m : ℕ) → old m ≡ true → new m ≡ true)

module _ {K R : Type 0} (number : K → ℕ) where
  -- as the cold store answers the put
  abbrev pub copy_put : Store K R → ℕ → HotRow K R → Result (Unit {0}) ColdRefusal → Outcome K R
  copy_put σ tag h (Err why) = refused (refusal.Cold why) σ
  copy_put σ tag h (Ok done) =
      served answer.Done
      (with_cold (with_hot σ (at_first (row_chosen tag) (λ x. one (with_mark (Copied tag) x)) σ.hot))
      (put_after σ.limit σ.cold (number h.key) tag h.row))

  abbrev pub copy_row : Store K R → ℕ → (ℕ → Bool) → Option (HotRow K R) → Outcome K R
  copy_row σ tag admits None = refused refusal.MoveOver σ
  copy_row σ tag admits (Some h) =
      copy_put (with_admits σ admits) tag h (put_answer σ.limit σ.cold (number h.key) tag)

  abbrev pub copy_rule : Lengths → Store K R → ℕ → (ℕ → Bool) → Outcome K R
  copy_rule lent σ tag admits = if_lent Mover lent σ σ (copy_row σ tag admits (first (row_chosen tag) σ.hot))

-- Settle.

-- only N takes the row's begin
abbrev pub settled_begin : Kind → ℕ → ℕ → ℕ
settled_begin N old new = new
settled_begin B old new = old
settled_begin E old new = old
settled_begin BE old new = old
settled_begin X old new = old

module _ {K : Type 0} where
  abbrev pub settle_notice : ℕ → Notice K → Notice K
  settle_notice c n = record {
    key = n.key;
    tag = n.tag;
    kind = kind_or n.kind (becomes n.kind Settle);
    begin = settled_begin n.kind n.begin c;
    end = n.end;
  }

module _ {K R : Type 0} (number : K → ℕ) where
  abbrev pub settle_row : Store K R → ℕ → Option (HotRow K R) → Outcome K R
  settle_row σ tag None = refused refusal.MoveOver σ
  settle_row σ tag (Some h) =
      served answer.Done
      (with_memo (with_hot σ (at_first (row_copied tag) (λ x. []) σ.hot))
      (at_first (is_for number (number h.key) tag) (λ x. one (settle_notice (begin_stamp h.begin) x)) σ.memo))

  abbrev pub settle_rule : Lengths → Store K R → ℕ → Outcome K R
  settle_rule lent σ tag = if_lent Mover lent σ σ (settle_row σ tag (first (row_copied tag) σ.hot))

-- Give-up.

module _ {K R : Type 0} where
  abbrev pub give_up_rule : Lengths → Store K R → ℕ → Outcome K R
  give_up_rule lent σ tag =
      if_lent Mover lent σ σ
      (cond (any (row_bears tag) σ.hot)
      (served answer.Done (with_hot σ (at_first (row_bears tag) (λ x. one (with_mark Unmoved x)) σ.hot)))
      (refused refusal.MoveOver σ))

-- Sweep.

module _ {K R : Type 0} where
  abbrev pub due : Store K R → Notice K → Bool
  due σ n = due_kind n.kind n.begin n.end (horizon_of σ) (any (row_bears n.tag) σ.hot)

-- begin and end stay as they were
abbrev pub with_kind : {K : Type 0} → Kind → Notice K → Notice K
with_kind kind n = record { key = n.key; tag = n.tag; kind = kind; begin = n.begin; end = n.end }

module _ {K R : Type 0} (number : K → ℕ) where
  -- the notice is taken out, or its cold entry is removed and it is emptied
  abbrev pub sweep_kind : Store K R → Notice K → Option Kind → Outcome K R
  sweep_kind σ n None = served (answer.Swept Gone) (with_memo σ (at_first (due σ) (λ x. []) σ.memo))
  sweep_kind σ n (Some kind) =
      served (answer.Swept Emptied)
      (with_cold (with_memo σ (at_first (due σ) (λ x. one (with_kind kind x)) σ.memo))
      (removed_after σ.cold (number n.key) n.tag))

  abbrev pub sweep_notice : Store K R → Option (Notice K) → Outcome K R
  sweep_notice σ None = served (answer.Swept NoneDue) σ
  sweep_notice σ (Some n) = sweep_kind σ n (becomes n.kind Empty)

  abbrev pub sweep_rule : Lengths → Store K R → Outcome K R
  sweep_rule lent σ = if_lent Mover lent σ σ (sweep_notice σ (first (due σ) σ.memo))

-- Collect.

module _ {K R : Type 0} where
  abbrev pub row_stays : ℕ → HotRow K R → Bool
  row_stays h x = not (end_past x.end h)

  abbrev pub collect_rule : Lengths → Store K R → Outcome K R
  collect_rule lent σ =
      if_lent Mover lent σ σ (served answer.Done (with_hot σ (kept (row_stays (horizon_of σ)) σ.hot)))
