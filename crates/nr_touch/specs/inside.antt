-- The insides of the search. Public clauses cite no more of them than how a page looks before a change (Changes), and an index that has each
-- page of a space (Indexed).
pub mod Alike
pub mod Blocks
pub mod Bounds
pub mod Changes
pub mod Columns
pub mod Earlier
pub mod Indexed
pub mod Joined
pub mod Lefts
pub mod Levels
pub mod Listed
pub mod Lives
pub mod Met
pub mod Overs
pub mod Reached
pub mod Sights
pub mod Stays
pub mod Undo
pub mod Walk
pub mod Excused
