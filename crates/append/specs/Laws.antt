-- What follows from the definitions, for the proofs to cite.
pub mod Appending
pub mod Putting
