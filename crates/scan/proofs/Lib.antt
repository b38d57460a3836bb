pub mod Placing
pub mod Lookups
pub mod Undone
pub mod Walking
