-- A pool's script by lanes, read by the standard at a start: the theorem of specs/Demand.antt, and an example byte for byte.
pub mod Values
pub mod Fine
pub mod Run
pub mod Script
pub mod Example
