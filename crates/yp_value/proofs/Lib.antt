pub mod ByteOrder
pub mod Digits
pub mod Named
pub mod Written
pub mod Zeros
