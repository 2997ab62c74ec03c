-- The insides of models: no public clause cites them.
pub mod Asked
pub mod Telling
