-- Laws of the definitions. No contract cites them: the checker reads them, nobody else has to.
pub mod ScopeMask
pub mod Readers
pub mod Fine
pub mod Sections
pub mod Passing
pub mod Splits
