-- Lemmas on rows and on roots.
pub mod Datastores
pub mod Roots
pub mod Writable
