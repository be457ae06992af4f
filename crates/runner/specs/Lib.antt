pub mod Answer
pub mod Desk
pub mod Ticks
pub mod Follows
pub mod Tracks
pub mod Bounds
pub mod Parts
