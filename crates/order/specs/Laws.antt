pub mod Items
pub mod Standing
pub mod Program
