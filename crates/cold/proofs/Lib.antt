pub mod Lists
pub mod Meaning
pub mod Places
pub mod PutIn
pub mod Table
