pub mod Rising
pub mod Rows
pub mod Totals
pub mod Digits
