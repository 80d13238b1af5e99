pub mod Handover
pub mod ListLaws
