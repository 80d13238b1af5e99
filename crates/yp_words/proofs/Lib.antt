pub mod Bounds
pub mod Examples
pub mod Numbers
pub mod Refused
pub mod Requests
