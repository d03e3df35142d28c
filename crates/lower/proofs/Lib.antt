-- What the families of builders share: powers of two, clamps, lanes, a run of builders.
pub mod Powers
pub mod Clamping
pub mod Lanes
pub mod Run
