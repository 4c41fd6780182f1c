pub mod Checks
pub mod Counts
mod Shapes
