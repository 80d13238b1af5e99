pub mod Committing
pub mod Renewals
pub mod Splitting
pub mod Turning
