pub mod FirstPlace
pub mod Kept
pub mod Least
pub mod Own
pub mod Tidy
