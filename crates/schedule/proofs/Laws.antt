pub mod Stuck
pub mod Outlooks
pub mod Stops
pub mod Bytes
pub mod Turns
pub mod Courses
pub mod Placed
