-- How ends are made where a plan is kept: no public clause cites it.
pub mod End
pub mod Written
pub mod Stepped
pub mod Seen
