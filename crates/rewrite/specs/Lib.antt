-- One body, written as in the canonical table.
pub mod Writing
pub mod Laws
