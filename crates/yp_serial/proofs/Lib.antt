pub mod Lessening
pub mod Settling
pub mod Offering
pub mod Serving
pub mod Queues
pub mod Anchored
