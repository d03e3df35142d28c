-- A pool's script, read by the standard at a start: the theorems of specs/Demand.antt, and an example byte for byte; scripts that the reader refuses.
pub mod Reading
pub mod Numbers
pub mod Vars
pub mod Terms
pub mod Names
pub mod Commands
pub mod Registers
pub mod Nodes
pub mod Run
pub mod Fine
pub mod Script
pub mod Example
pub mod Stays
pub mod Refused
