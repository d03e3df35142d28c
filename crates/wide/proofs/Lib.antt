-- Numbers of 192 bits in three words: sums, products, shifts.
pub mod Words
pub mod Digits
pub mod Shifts
pub mod Products
