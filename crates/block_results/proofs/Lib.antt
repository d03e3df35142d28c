-- The words of a block's answer: put one by one into 34 zeros, and read back.
pub mod Putting
