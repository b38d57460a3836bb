-- How a version that was seen is ended, decided before anything is written, and then carried out on the tables.
use Rattle.std.specs.Prelude.{ℕ, Bool, cond, List, Some, None, Ok, Err, Option, Result, position}
use Rattle.slots.specs.Lists.{changed_at, appended, count_with}
use Rattle.rules.specs.declared.tables.HotRow.{HotRow}
use Rattle.rules.specs.declared.tables.Notice.{Notice}
use Rattle.rules.specs.declared.answers.Side.TheVariants.{Seller}
use Rattle.rules.specs.declared.answers.Refusal.{Refusal}
use Rattle.rules.specs.declared.answers.Refusal.TheVariants as refusal
use Rattle.rules.specs.Looking.{is_for}
use Rattle.rules.specs.Selling.{end_row, end_notice, new_end}
use Rattle.scan.specs.declared.looked.Place.{Place}
use Rattle.scan.specs.declared.looked.Place.TheVariants.{Hot, Cold}
use Rattle.scan.specs.declared.looked.Seen.{Seen}
use Rattle.seller.specs.declared.ending.Ending.{Ending}
use Rattle.seller.specs.declared.ending.Ending.TheVariants.{Row, Turn, Add}

-- a cold entry is ended by its notice, if it has one at a place, else by a new one, unless the memo is full
abbrev pub by_notice : Bool → ℕ → Option ℕ → Result (Option Ending) Refusal
by_notice full tag (Some at) = Ok (Some (Turn at))
by_notice full tag None = cond full (Err (refusal.MemoFull Seller)) (Ok (Some (Add tag)))

module _ {K : Type 0} (number : K → ℕ) where
  abbrev pub entry_ending : Bool → List (Notice K) → ℕ → ℕ → Result (Option Ending) Refusal
  entry_ending full memo k tag = by_notice full tag (position (is_for number k tag) memo)

  abbrev pub ending_at : Bool → List (Notice K) → ℕ → Place → Result (Option Ending) Refusal
  ending_at full memo k (Hot i) = Ok (Some (Row i))
  ending_at full memo k (Cold tag) = entry_ending full memo k tag

  abbrev pub ending_of : {R : Type 0} → Bool → List (Notice K) → ℕ → Option (Seen R) → Result (Option Ending) Refusal
  ending_of full memo k None = Ok None
  ending_of full memo k (Some v) = ending_at full memo k v.place

-- carried out: in the hot table, in a memo of `used` notices in `room` slots, and how many notices there are then
abbrev pub ended_hot : {K R : Type 0} → Option Ending → ℕ → List (HotRow K R) → List (HotRow K R)
ended_hot None s hot = hot
ended_hot (Some (Row i)) s hot = changed_at i (end_row s) hot
ended_hot (Some (Turn i)) s hot = hot
ended_hot (Some (Add tag)) s hot = hot

abbrev pub ended_memo : {K : Type 0} → ℕ → ℕ → Option Ending → ℕ → K → List (Notice K) → List (Notice K)
ended_memo room used None s key memo = memo
ended_memo room used (Some (Row i)) s key memo = memo
ended_memo room used (Some (Turn i)) s key memo = changed_at i (end_notice s) memo
ended_memo room used (Some (Add tag)) s key memo = appended room used (new_end s key tag) memo

abbrev pub ending_count : ℕ → ℕ → Option Ending → ℕ
ending_count room used None = used
ending_count room used (Some (Row i)) = used
ending_count room used (Some (Turn i)) = used
ending_count room used (Some (Add tag)) = count_with room used
