-- Loop invariants and the insides of models: no public clause cites them.
pub mod Reached
pub mod OneSpace
pub mod Parts
pub mod Fields
pub mod Views
