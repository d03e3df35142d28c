-- Numbers that agree in each lane are equal; the theorems of specs/Demand.antt, also on canonical pools.
pub mod Lanes
pub mod Equal
pub mod Canonical
pub mod Joined
