pub mod Seats
pub mod Draws
pub mod Notes
pub mod Placing
pub mod Gathering
pub mod Finished
pub mod Segments
