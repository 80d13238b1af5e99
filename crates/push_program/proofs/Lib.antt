pub mod ManualLaws
pub mod StatusLaws
pub mod TopLaws
