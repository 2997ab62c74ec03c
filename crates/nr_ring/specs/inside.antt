-- Loop invariants and the insides of models: no public clause cites them.
pub mod Held
pub mod Batch
pub mod Codes
pub mod Gathering
