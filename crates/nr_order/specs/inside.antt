-- Loop invariants, and what is looked for first: no public clause cites them.
pub mod ByThemselves
pub mod Counted
