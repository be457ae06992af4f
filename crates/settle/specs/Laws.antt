-- What follows from the definitions, for the proofs to cite.
pub mod Masks
pub mod Off
pub mod Cleared
pub mod Starts
pub mod Surveys
pub mod Improving
pub mod Links
