pub mod Folds
pub mod Edits
pub mod Few
pub mod Hits
pub mod Slots
pub mod Loops
pub mod Used
