pub mod Laws
pub mod TableLaws
pub mod CanonLaws
pub mod WriteLaws
