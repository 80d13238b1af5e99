pub mod Crossing
pub mod Interleaving
pub mod Lists
pub mod Starting
pub mod Writing
