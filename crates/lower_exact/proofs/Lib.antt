-- The exact values of one lane, from what their calls build.
pub mod Exactly
