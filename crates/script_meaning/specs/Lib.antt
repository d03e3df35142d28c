pub mod Sexp
pub mod Read
pub mod Values
pub mod Functions
pub mod Meaning
pub mod Script
pub mod Refused
pub mod Demand
