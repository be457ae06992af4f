-- Rows worked out in rounds over a buffer: what the functions are given and leave.
pub mod Round
pub mod Source
