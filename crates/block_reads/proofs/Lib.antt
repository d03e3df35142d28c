-- A read of a register and the widening of a result, in each of their cases.
pub mod Reading
