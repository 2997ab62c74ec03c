pub mod Lines
pub mod Fed
pub mod Script
pub mod Portion
pub mod Examples
pub mod inside
