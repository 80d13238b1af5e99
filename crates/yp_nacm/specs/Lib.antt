pub mod AccessLaws
pub mod Decision
pub mod Own
pub mod Policies
pub mod Same
pub mod SameLaws
