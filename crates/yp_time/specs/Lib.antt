pub mod Days
pub mod Due
pub mod DueLaws
pub mod Forms
pub mod Instants
pub mod Ticks
