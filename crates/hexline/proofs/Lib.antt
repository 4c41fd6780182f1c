-- The lemmas that the functions' proofs share.
pub mod Digits
mod Cuts
mod Steps
mod Longer
