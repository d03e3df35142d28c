-- The theorem of specs/Demand.antt: demand 3 for the evaluator.
pub mod Equal
