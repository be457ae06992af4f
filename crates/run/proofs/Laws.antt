-- The theorem, and what it rests on, in the order of the argument.
pub mod Update
pub mod History
pub mod Invariant
pub mod Change
pub mod Places
pub mod Steps
pub mod Always
pub mod Turns
pub mod Mirrors
pub mod Chain
pub mod Tree
pub mod Circle
pub mod Closed
pub mod Progress
pub mod Safety
