pub mod Answers
pub mod Bases
pub mod Drafts
pub mod PatchLaws
pub mod Patches
