-- The bits of an instruction's lanes, from what their calls build; the bits over whole registers are those over the registers as a record reads them.
pub mod Joining
pub mod Whole
