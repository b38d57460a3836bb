pub mod Writes
pub mod History
