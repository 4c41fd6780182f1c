pub mod Admission
pub mod Binders
pub mod Formulas
pub mod Operations
pub mod Refusals
pub mod Spelling
pub mod Words
