pub mod Journal
pub mod JournalLaws
pub mod Turns
