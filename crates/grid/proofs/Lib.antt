pub mod Laws
pub mod Relations
pub mod Pivots
pub mod Shapes
pub mod Loops
pub mod Recorded
pub mod Growing
pub mod Closed
