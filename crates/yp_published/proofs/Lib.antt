pub mod Fronts
pub mod Adding
pub mod Views
pub mod Catching
