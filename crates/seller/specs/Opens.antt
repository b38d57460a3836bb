-- What an opening answers.
use Rattle.std.specs.Prelude.{◌≡◌, ℕ, Bool, true, false, List, Ok, Err, Result}
use Rattle.cold.specs.Cold.{Entry}
use Rattle.rules.specs.declared.tables.HotRow.{HotRow}
use Rattle.rules.specs.declared.tables.Notice.{Notice}
use Rattle.rules.specs.declared.tables.Line.{Line}
use Rattle.rules.specs.declared.sheet.Sheet.{Sheet}
use Rattle.rules.specs.declared.answers.Side.TheVariants.{Seller}
use Rattle.rules.specs.declared.answers.Refusal.{Refusal}
use Rattle.rules.specs.declared.answers.Refusal.TheVariants as refusal
use Rattle.rules.specs.Stores.{Lengths, store}
use Rattle.rules.specs.Opening.{in_range, opened}

-- within the ranges a sheet, whose store is the opened one whatever the tables hold and whatever lies below; else the refusal
abbrev pub Opens : (K R : Type 0) → Lengths → ℕ → ℕ → Result Sheet Refusal → Type 0
Opens K R lengths clock last_tag (Ok sheet) =
    (in_range lengths clock last_tag ≡ true)
    × ((hot : List (HotRow K R)) (memo : List (Notice K)) (ledger : List (Line K)) (es : List (Entry R)) (limit : ℕ) (admits : ℕ → Bool)
    → store sheet hot memo ledger es limit admits ≡ opened lengths clock last_tag es limit admits)
Opens K R lengths clock last_tag (Err e) = (in_range lengths clock last_tag ≡ false) × (e ≡ refusal.OutOfRange Seller)
