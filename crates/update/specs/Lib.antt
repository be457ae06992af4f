-- A model brought up to date where one routine is replaced: the answer and what is left, and what is proved of them.
pub mod Answer
pub mod Parts
