-- Nodes have one class exactly when they have one tree; the search for a key, and how many nodes it meets.
pub mod Slots
pub mod Search
pub mod Keys
pub mod Steps
pub mod Bound
