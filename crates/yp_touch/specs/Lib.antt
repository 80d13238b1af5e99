pub mod Absorbed
pub mod Concealed
pub mod Looked
pub mod RecordLaws
pub mod RootLaws
pub mod Roots
pub mod Windows
