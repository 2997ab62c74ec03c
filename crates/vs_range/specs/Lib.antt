pub mod Several
pub mod Run
pub mod Planner
pub mod Direct
pub mod inside
