-- What the searches of this crate find. Of these public clauses cite `Ways` alone.
pub mod Explained
pub mod Firsts
pub mod Ends
pub mod Searches
pub mod Ways
pub mod Itself
pub mod Nearest
pub mod Reaches
pub mod Reading
pub mod Starts
pub mod Steps
pub mod Windows
