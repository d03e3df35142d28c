-- What `write_lane_script` answers, by the way that it took; what `write_lane_script` writes, read by the standard: the theorem of specs/Demand.antt.
pub mod Answers
pub mod Means
