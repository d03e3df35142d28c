pub mod Op
pub mod Form
pub mod Arm
pub mod Run
pub mod Refusal
