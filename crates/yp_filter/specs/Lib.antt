pub mod Filters
pub mod View
pub mod ViewLaws
pub mod Fits
pub mod Reading
pub mod Same
pub mod Counts
