pub mod Parts
pub mod Further
pub mod Starts
pub mod Keeps
