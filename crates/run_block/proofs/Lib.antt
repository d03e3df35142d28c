-- A record and a block on the registers; the rows of the families.
pub mod Running
pub mod Rows
pub mod Runs
