pub mod Passes
pub mod Words
pub mod Meetings
-- the table below the cell
pub mod inside
