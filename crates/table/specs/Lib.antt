pub mod Constants
pub mod Program
pub mod Check
pub mod Refusal
pub mod Answer
pub mod WellFormed
pub mod Encoding
pub mod Laws
