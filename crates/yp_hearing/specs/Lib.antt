pub mod Hearing
pub mod Windows
pub mod Interleaving
