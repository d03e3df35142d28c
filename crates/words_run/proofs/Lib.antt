-- How long the texts of a refusal are; what a whole run writes, by its calls; if there is a report.
pub mod Texts
pub mod Runs
pub mod Refusals
