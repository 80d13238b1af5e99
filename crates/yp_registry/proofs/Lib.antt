pub mod Feeds
pub mod Establishing
pub mod Rising
pub mod Places
pub mod Finding
pub mod Numbers
pub mod Keeping
pub mod Further
