pub mod Lies
pub mod Walks
pub mod Holding
pub mod Laws
