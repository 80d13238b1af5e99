pub mod Faults
pub mod LimitLaws
pub mod Readings
pub mod Replay
