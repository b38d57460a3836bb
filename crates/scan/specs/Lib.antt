pub mod Bare
pub mod Told
pub mod Undoing
