-- What is kept between the pieces of a chain, and what a whole segment makes of it: no public clause cites these.
pub mod Between
pub mod Steps
