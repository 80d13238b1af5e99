pub mod Strings
pub mod Parts
