pub mod Held
pub mod Placed
