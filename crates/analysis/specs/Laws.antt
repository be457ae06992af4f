pub mod Judging
pub mod Judges
