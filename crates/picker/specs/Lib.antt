pub mod Greedy
pub mod Orders
pub mod GreedyChoices
pub mod Places
