-- What is said of a piece before its numbers are written: no public clause cites it.
pub mod Said
