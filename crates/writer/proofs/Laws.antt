-- What follows from the contract.
pub mod Fits
pub mod Unique
pub mod Same
pub mod Rows
pub mod Refusals
