pub mod Histories
pub mod Reads
pub mod Rules
pub mod Views
