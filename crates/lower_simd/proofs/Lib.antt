-- Cuts, which are joined, and lanes put side by side build their trees.
pub mod Cutting
