pub mod LogHistory
pub mod Words
pub mod View
pub mod Rule
pub mod Calls
pub mod Examples
pub mod Laws
pub mod Pass
pub mod Entries
-- models and loops
pub mod inside
