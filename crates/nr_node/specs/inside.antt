-- Loop invariants and the insides of models: no public clause cites them.
pub mod Replica
pub mod AppliedEntry
pub mod Node
