-- What is proved of the worked tables.
pub mod Proved
pub mod Answered
pub mod Promised
pub mod Scheduled
