-- What follows from the definitions, for the proofs to cite and for the reader.
pub mod Fits
pub mod Reworked
pub mod Own
pub mod Fresh
pub mod Least
pub mod Unique
pub mod Done
pub mod AsAnalysed
pub mod Refusals
pub mod Grounds
