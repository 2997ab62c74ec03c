-- Loop invariants and the insides of models: no public clause cites them.
pub mod Invariant
pub mod Listed
pub mod PageMap
pub mod Place
pub mod Tables
