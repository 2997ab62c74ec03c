-- What is left behind a run: of its changes, and of its touches.
pub mod Behind
pub mod Ended
pub mod Lefts
pub mod Levels
pub mod Listed
pub mod Looks
pub mod NoProtects
pub mod Placed
pub mod Tails
pub mod Thinned
