pub mod Argument
pub mod Report
