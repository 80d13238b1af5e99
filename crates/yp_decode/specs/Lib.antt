pub mod Bodies
pub mod Envelope
pub mod Grammar
pub mod Readings
pub mod Sound
