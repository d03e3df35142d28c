-- Accepted records, the first place that is refused, the sizes of views and lanes, lanes as one number; the computed table of forms.
pub mod Legal
pub mod First
pub mod Geometry
pub mod Lanes
