pub mod Clocks
pub mod Dates
pub mod DayNumbers
pub mod DaysInOrder
pub mod Written
