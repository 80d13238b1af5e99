pub mod Drawn
pub mod Setting
