pub mod Readers
pub mod Slots
pub mod Classes
pub mod Records
pub mod Steps
pub mod ListLaws
pub mod ResultLaws
pub mod LiveLaws
