-- What the definitions mean, beside the functions.
pub mod Laws
mod Readings
mod Nests
mod Mirrors
