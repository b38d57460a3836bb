pub mod Loading
pub mod Text
pub mod Report
