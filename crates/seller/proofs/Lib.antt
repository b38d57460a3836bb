pub mod Admission
pub mod Drops
pub mod Endings
pub mod Ends
pub mod Looks
pub mod Parts
pub mod Puts
