-- A line is in columns exactly when it is six numbers below 10,000, each in columns; they are then its fields.
pub mod Meaning
