-- The words of a node of the canonical pool, from a node with the same tree; arrays of one number, and what canonising answers; the theorems of specs/Meaning.antt.
pub mod Words
pub mod Arrays
pub mod Meaning
