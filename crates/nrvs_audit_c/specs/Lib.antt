pub mod Held
pub mod Handle
