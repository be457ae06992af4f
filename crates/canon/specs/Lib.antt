-- The one way to write a table, and what is proved of it.
pub mod Canonical
