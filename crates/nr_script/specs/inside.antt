-- Loop invariants and the insides of models: no public clause cites them.
pub mod Left
pub mod InWords
pub mod Reading
pub mod Gathering
