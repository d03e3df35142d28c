-- The refusals of one instruction, in their order.
pub mod Refusing
