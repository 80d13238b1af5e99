pub mod Commands
pub mod Draws
pub mod Scripts
