-- What a kind or a flag chooses: operators, ranges, the bits of a source lane.
pub mod Bits
pub mod Props
