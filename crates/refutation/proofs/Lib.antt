-- An accepted refutation refutes: what a gate's clauses say of truth, unit propagation under an assignment, steps, the theorem.
pub mod Cases
pub mod Gate
pub mod Propagation
pub mod Sound
