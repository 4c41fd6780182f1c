pub mod Ages
pub mod Parts
pub mod Shares
pub mod Writing
mod Sources
