-- The insides of calls: no public clause cites them.
pub mod View
