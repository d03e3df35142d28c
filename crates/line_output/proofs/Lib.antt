-- The answers to a line: a text too long for its buffer, and a text between its number and its newline.
pub mod Texts
