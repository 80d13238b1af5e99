pub mod Counts
pub mod Desks
pub mod Promise
pub mod Report
pub mod Runs
pub mod Summary
