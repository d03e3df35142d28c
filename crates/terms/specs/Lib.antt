pub mod Expr
pub mod Value
pub mod Rules
pub mod Display
pub mod Registers
