-- What the writer of the dearest chain leaves, and what follows from it.
pub mod Written
pub mod Laws
