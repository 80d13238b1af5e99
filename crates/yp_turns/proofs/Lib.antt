pub mod Counts
pub mod Journals
pub mod TurnLaws
