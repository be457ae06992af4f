pub mod Pending
pub mod Parts
pub mod Steps
pub mod Tracking
pub mod Scanning
pub mod Gaining
pub mod Recording
