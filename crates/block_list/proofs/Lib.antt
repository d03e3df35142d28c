-- What `run_instructions` and `lower_instructions` leave, record by record; `lower_instructions` leaves what `lower_block` leaves.
pub mod Listed
pub mod Equal
