-- The block's bit after a record, from what its calls build.
pub mod Recording
