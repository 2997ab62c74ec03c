-- The value in the table, and its steps: no public clause cites them.
pub mod Heads
pub mod Versions
pub mod Steps
