pub mod Causes
pub mod Faults
pub mod Memory
pub mod Moves
pub mod Whole
