pub mod Ending
pub mod Going
pub mod Listening
pub mod Places
pub mod Results
