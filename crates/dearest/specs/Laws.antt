-- What follows from the definitions, for the proofs to cite.
pub mod Parts
pub mod Dearest
