-- The definitions of the run, and the theorem that a clear program is safe.
pub mod Decide
pub mod Run
