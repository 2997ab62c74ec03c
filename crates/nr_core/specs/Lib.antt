pub mod State
pub mod Steps
pub mod Run
pub mod Examples
pub mod Faultless
pub mod Laws
pub mod inside
