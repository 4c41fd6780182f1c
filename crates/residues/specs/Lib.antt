pub mod Averages
pub mod Residues
