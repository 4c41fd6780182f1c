mod Orders
mod Points
mod Ranges
