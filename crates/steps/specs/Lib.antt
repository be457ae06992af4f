pub mod Records
pub mod Shown
pub mod Machines
pub mod Steps
