pub mod World
pub mod Holding
pub mod Headline
pub mod TakenLaws
pub mod Serially
pub mod EventLaws
