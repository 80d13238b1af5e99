pub mod History
pub mod JournalLaws
