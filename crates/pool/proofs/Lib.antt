-- Laws of growth, of valid nodes and of runs of builders; pools from before the sets of registers.
pub mod Laws
pub mod Facts
pub mod Steps
pub mod Earlier
