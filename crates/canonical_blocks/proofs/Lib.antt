-- A block that is accepted in one order of its records is accepted with two neighbours exchanged: it has as many records, and the same ones; the theorems of specs/Swapped.antt.
pub mod Accepted
pub mod Swapped
