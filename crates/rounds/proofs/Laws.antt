-- What follows from the definitions, for the proofs to cite.
pub mod Counts
pub mod Search
pub mod Reach
pub mod LeastGiven
pub mod Positive
pub mod Steps
pub mod Cycles
pub mod Acyclic
pub mod Bits
pub mod Bound
pub mod ChainRounds
pub mod ChainTable
pub mod Untouched
pub mod OneBody
