pub mod Node
pub mod Rules
pub mod Unfold
pub mod Growth
pub mod Earlier
