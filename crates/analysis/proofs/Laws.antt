pub mod Bytes
pub mod Unique
pub mod Counted
pub mod LastBytes
pub mod Judged
pub mod Refusals
