-- Loop invariants and the insides of models: no public clause cites them.
pub mod Progress
pub mod Reading
pub mod Feeding
pub mod PackedEvent
