pub mod Going
pub mod Run
