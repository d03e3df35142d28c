-- The lines of a script by lanes, in the pieces in which they are written.
pub mod Spelling
