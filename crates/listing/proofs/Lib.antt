pub mod Digits
mod Rows
