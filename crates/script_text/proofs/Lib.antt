-- The lines of a pool's script in the pieces in which they are written.
pub mod Chunks
pub mod Bits
pub mod Spelling
pub mod Nodes
pub mod Parts
pub mod Whole
