-- A register's line: when its mark stands, and how long it is; what a routine on a start answers, by the way that it took.
pub mod Texts
pub mod Runs
