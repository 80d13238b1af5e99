pub mod Contents
pub mod Tokens
