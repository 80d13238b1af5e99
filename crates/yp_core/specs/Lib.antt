pub mod Deliveries
pub mod Events
pub mod Worlds
