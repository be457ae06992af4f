-- The rows of a program worked out until none is due: what the functions are given and leave, and laws.
pub mod Reach
pub mod Due
pub mod Settle
pub mod Bodies
pub mod Source
pub mod Laws
