pub mod Events
pub mod Doing
pub mod Numbers
pub mod Parts
pub mod Copies
pub mod Serving
pub mod Serially
