pub mod Pages
pub mod Flagged
pub mod Views
pub mod Surplus
pub mod InRange
