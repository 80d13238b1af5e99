pub mod Filling
pub mod Going
pub mod Promises
pub mod Told
pub mod Whole
