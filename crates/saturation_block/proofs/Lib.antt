-- The refusals of a block with its saturation bit, and the answer of the whole from its start and its run; the theorems of specs/Demand.antt.
pub mod Done
pub mod Equal
