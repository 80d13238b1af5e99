pub mod Companions
pub mod Runs
