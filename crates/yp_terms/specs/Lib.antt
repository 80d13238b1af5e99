pub mod Terms
pub mod Refusals
pub mod Amends
pub mod Coding
pub mod RefusalLaws
