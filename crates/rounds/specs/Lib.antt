-- Rows worked out in rounds and how many rounds there are, the dearest chain, rows worked out with some taken as given,
-- programs that differ in one body, and what is proved of them.
pub mod Reaches
pub mod Rounds
pub mod Chain
pub mod Given
pub mod OneBody
pub mod Laws
