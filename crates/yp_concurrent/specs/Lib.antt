pub mod Promise
pub mod Report
pub mod Running
pub mod Texts
