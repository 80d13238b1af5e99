pub mod Faults
pub mod Members
pub mod NameSets
pub mod Policies
pub mod Rules
