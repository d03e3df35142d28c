-- The set of a node is that of its term; no other register matters.
pub mod Walk
pub mod Matter
pub mod Agreeing
