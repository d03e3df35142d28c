-- The shifts of one lane build their trees: to the right, to the left, by a register.
pub mod Shifting
pub mod ShiftingLeft
