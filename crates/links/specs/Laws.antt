pub mod Bytes
pub mod Sizes
pub mod Named
pub mod Passing
pub mod Linking
