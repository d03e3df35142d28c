-- The theorems of specs/Demand.antt: the runner, the Arm run, the terms and the evaluator agree.
pub mod Equal
