-- Digits read and written one by one; gaps, and the registers between them.
pub mod Digits
pub mod Starts
