pub mod Serving
pub mod Shown
pub mod Received
pub mod Promise
pub mod Posts
pub mod Interleaving
