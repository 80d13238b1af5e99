-- A lemma on rows.
pub mod Datastores
