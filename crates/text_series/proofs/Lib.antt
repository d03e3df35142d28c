-- Lists written one after the other, and the elements at given places in them.
pub mod Texts
pub mod Places
