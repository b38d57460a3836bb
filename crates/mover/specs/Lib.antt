pub mod Due
pub mod Grown
pub mod Hands
