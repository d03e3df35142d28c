-- The records of a block with their bits; the value of the block's bit is 1 exactly when some lane of some instruction saturates.
pub mod Running
pub mod Holds
