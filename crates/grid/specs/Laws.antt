-- What follows from the definitions, for proofs here and in other crates to cite.
pub mod Walks
