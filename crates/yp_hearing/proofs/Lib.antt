pub mod Depth
pub mod Heard
pub mod States
pub mod Told
pub mod Tracks
pub mod Windows
pub mod Interleaved
