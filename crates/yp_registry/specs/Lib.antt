pub mod Registry
pub mod Calls
pub mod Amending
pub mod Configuring
pub mod Coding
pub mod Ids
