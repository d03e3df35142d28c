-- The theorems of specs/Demand.antt: the registers of an accepted block, by their script.
pub mod Differ
