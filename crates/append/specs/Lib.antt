-- Appending to a text in a lent buffer.
pub mod Appends
pub mod Puts
pub mod Laws
