-- Laws of the definitions. No contract cites them: the checker reads them, nobody else has to.
pub mod Cases
pub mod Lists
pub mod Fuel
pub mod Refusals
pub mod Numbers
pub mod Sound
pub mod Complete
pub mod Formed
pub mod Items
pub mod Accepts
pub mod Within
pub mod Sections
