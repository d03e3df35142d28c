-- The characters of a number in columns, one by one; the test of a field, character by character.
pub mod Characters
pub mod Fields
