pub mod Updates
pub mod Batch
-- the table
pub mod inside
