pub mod Status
pub mod Reply
pub mod Table
pub mod Call
pub mod Flags
pub mod inside
