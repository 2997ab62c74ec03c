pub mod Stamps
pub mod Rule
pub mod Pen
pub mod Events
-- models and loops
pub mod inside
