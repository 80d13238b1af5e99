pub mod Items
pub mod Paths
pub mod TakenNames
pub mod Words
