pub mod FloatLaws
pub mod Lines
pub mod Sendable
pub mod Texts
