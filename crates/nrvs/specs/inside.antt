-- Loop invariants and the insides of models: no public clause cites them.
pub mod ChainGoing
