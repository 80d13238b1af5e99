mod Kept
mod Opened
mod Places
mod Said
mod States
mod Taken
pub mod Offered
