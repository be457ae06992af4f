-- Writing a table anew: what is answered and left, and what is proved of it.
pub mod Answer
pub mod Parts
