-- A joined pool: its words, node by node; its trees; the theorems of specs/Meaning.antt.
pub mod Checks
pub mod ByKind
pub mod Renamed
pub mod Registers
pub mod Refusals
pub mod Moved
pub mod Copies
pub mod Trees
pub mod Meaning
