-- Exact integers in three words, and lanes clamped from them.
pub mod Laws
