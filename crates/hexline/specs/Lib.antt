-- The meaning of a line of hexadecimal digits, and of a text of such lines.
pub mod Hex
pub mod Lines
