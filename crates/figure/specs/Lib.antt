pub mod Bands
pub mod Exact
pub mod Faults
pub mod Laws
pub mod Ticks
