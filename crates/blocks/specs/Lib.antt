pub mod Blocks
pub mod Cells
pub mod Gather
pub mod Effects
pub mod Few
pub mod Cut
pub mod Lent
