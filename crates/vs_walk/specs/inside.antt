-- Loop invariants and the insides of models: no public clause cites them.
pub mod Traversed
pub mod Kept
pub mod Borrowed
