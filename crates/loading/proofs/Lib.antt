pub mod Finds
pub mod Loops
pub mod Texts
pub mod Whole
