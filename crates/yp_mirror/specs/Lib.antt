pub mod Heard
pub mod Stories
pub mod Following
pub mod Links
pub mod FullQueues
pub mod Keeping
pub mod Living
