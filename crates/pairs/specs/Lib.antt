pub mod Walks
pub mod Gains
pub mod Parts
