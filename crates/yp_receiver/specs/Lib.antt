pub mod Compact
pub mod Finding
pub mod Gone
pub mod Held
pub mod Hearable
pub mod Holdings
pub mod Readable
