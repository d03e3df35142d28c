-- The answer to a line, by the way that it took; it fits its room; the output of an input that is read in pieces.
pub mod Fits
pub mod Output
pub mod Records
