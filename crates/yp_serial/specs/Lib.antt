pub mod Weights
pub mod DueTicks
pub mod Posts
pub mod Serial
