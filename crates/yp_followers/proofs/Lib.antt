pub mod Fulls
pub mod Results
pub mod Outboxes
pub mod Crossing
pub mod Following
pub mod Journals
pub mod Keeping
