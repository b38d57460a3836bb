pub mod Cold
pub mod Few
pub mod Lists
pub mod New
pub mod Sorted
