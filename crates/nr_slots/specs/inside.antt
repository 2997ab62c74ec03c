-- The table in which slots lie: no public clause cites it.
pub mod Kept
