-- The numbers of a legal record fit their columns, and its line has 25 bytes.
pub mod Small
