pub mod Commands
pub mod Scripts
pub mod Setting
pub mod Steps
pub mod Texts
