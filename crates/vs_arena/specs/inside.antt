-- Loop invariants and the insides of models: no public clause cites them.
pub mod RawArena
pub mod Region
pub mod RegionLends
pub mod RegionMemory
