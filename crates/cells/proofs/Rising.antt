-- A higher horizon leaves every cell its shape.
use Rattle.std.proofs.Common.{ℕ, ◌≤◌, List, arith, None, Some, Option}
use Rattle.rules.specs.declared.times.Moment.{Moment}
use Rattle.rules.specs.declared.times.Moment.TheVariants as moment
use Rattle.rules.specs.declared.tables.HotRow.{HotRow}
use Rattle.rules.specs.declared.tables.Notice.{Notice}
use Rattle.cold.specs.Cold.{Entry}
use Rattle.cells.proofs.Cells.{Cell, QuietEnd, c_empty, c_plain, c_idle, c_chosen, c_copied, c_begun, c_ended, c_both, c_emptied}

pub quiet_rise : (h g : ℕ) (y : Option Moment) → h ≤ g → QuietEnd h y → QuietEnd g y
quiet_rise h g None l q = tt
quiet_rise h g (Some (moment.Stamp n)) l q = omega arith
quiet_rise h g (Some (moment.Mark n)) l q = elim q [ ]

module _ {K R : Type 0} where
  pub cell_rise : (h g : ℕ) {ns : List (Notice K)} {es : List (Entry R)} {ms : List (HotRow K R)}
      → h ≤ g → Cell h ns es ms → Cell g ns es ms
  cell_rise h g l (c_empty p q z) = c_empty p q z
  cell_rise h g l (c_plain d p q z) = c_plain d p q z
  cell_rise h g l (c_idle n p q u z) = c_idle n p q u z
  cell_rise h g l (c_chosen n m i p q u z t a x y) = c_chosen n m i p q u z t a x y
  cell_rise h g l (c_copied n m i d p q u z t a x y v) = c_copied n m i d p q u z t a x y v
  cell_rise h g l (c_begun n d p q u x z) = c_begun n d p q u x z
  cell_rise h g l (c_ended n d p q u x z ne) = c_ended n d p q u x z ne
  cell_rise h g l (c_both n d p q x z ne) = c_both n d p q x z ne
  cell_rise h g l (c_emptied n p q u v x z) = c_emptied n p q (omega arith) (quiet_rise h g n.end l v) x z
