pub mod History
pub mod Recorded
pub mod Examples
