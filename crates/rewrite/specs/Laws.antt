pub mod Written
pub mod Sizes
