pub mod OrderLaws
pub mod MeetLaws
pub mod DiscoverLaws
