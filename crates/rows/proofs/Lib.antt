-- What the proofs of the functions cite.
pub mod Masks
pub mod Adding
pub mod Rows
pub mod Clearing
