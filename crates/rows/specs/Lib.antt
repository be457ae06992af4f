-- The rows in a model buffer, what the functions on them leave, and the laws of rows.
pub mod Bytes
pub mod Model
pub mod Added
pub mod Laws
