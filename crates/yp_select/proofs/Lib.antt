pub mod Apart
pub mod Covering
pub mod Reading
pub mod Selecting
pub mod Those
pub mod Tops
