-- The insides of a machine: no public clause cites them.
pub mod Told
