-- What follows from the definitions: the checker reads it, nobody else has to.
pub mod Lists
pub mod Order
pub mod Rewrite
pub mod Canonical
pub mod Limits
pub mod Accepted
pub mod Differ
pub mod Mirrors
pub mod Renaming
pub mod Simulation
pub mod Rows
pub mod Share
