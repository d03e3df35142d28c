-- The rules of a node; nodes that need no gates; one node more.
pub mod Rules
pub mod Literals
pub mod Values
pub mod Steps
pub mod Operators
pub mod Comparisons
pub mod Pools
pub mod Bounds
