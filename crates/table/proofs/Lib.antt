pub mod Laws
mod NameLaws
mod ReaderLaws
mod OpeningLaws
mod BodyLaws
mod Examples
