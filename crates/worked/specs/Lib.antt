-- The worked tables of docs/FORMAT.md and the theorem about them.
pub mod Cases
