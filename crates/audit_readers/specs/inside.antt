-- What the engines go through. No public clause cites these.
pub mod Going
pub mod Judged
pub mod Begun
pub mod Explaining
pub mod Found
