pub mod Runs
pub mod Single
pub mod Episodes
pub mod Law
pub mod Sample
pub mod Tempting
