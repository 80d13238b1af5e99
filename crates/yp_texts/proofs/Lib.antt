pub mod Atoms
pub mod Lines
pub mod Patching
pub mod Reading
pub mod Scripts
