-- What follows from the definitions, for proofs here and in other crates to cite.
pub mod Masks
pub mod Labels
pub mod Square
