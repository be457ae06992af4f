pub mod Laws
pub mod DecimalLaws
pub mod LineLaws
pub mod ListLaws
