-- The order in which routines are first met: the items that bodies are read by, and what is found.
pub mod Items
pub mod Standing
pub mod Ordering
pub mod Laws
