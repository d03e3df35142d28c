pub mod Forms
pub mod Texts
