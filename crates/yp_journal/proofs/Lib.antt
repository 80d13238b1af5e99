pub mod Answering
pub mod Keeping
pub mod Refusals
pub mod Crossing
