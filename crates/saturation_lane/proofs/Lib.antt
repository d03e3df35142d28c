-- The bit of a clamp, from what its calls build, and those of the lanes that clamp an exact value; the bits of the shifts, from what their calls build.
pub mod Clipping
pub mod Shifts
