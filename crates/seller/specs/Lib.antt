pub mod Admitted
pub mod Ending
pub mod Opens
