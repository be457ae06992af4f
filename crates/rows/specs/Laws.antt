-- What follows from the definitions, for the proofs to cite.
pub mod Fixpoint
pub mod Totals
pub mod Cells
