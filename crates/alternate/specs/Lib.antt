pub mod Meaning
pub mod Alternation
