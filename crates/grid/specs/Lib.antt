pub mod Grid
pub mod Rows
pub mod Planes
pub mod Laws
