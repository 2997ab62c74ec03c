pub mod LocalTails
pub mod Histories
pub mod Rounds
pub mod Views
pub mod Rights
pub mod Turns
pub mod Needed
pub mod CellWords
pub mod SameWords
pub mod Exchanges
pub mod Splits
pub mod Joins
pub mod NewLog
pub mod Passes
pub mod Advances
pub mod Meets
pub mod Batches
pub mod Fetches
pub mod Appends
pub mod OwnTails
pub mod Makers
mod Codes
mod Packing
mod Leads
mod BothDone
pub mod FirstWords
pub mod Further
pub mod Gathers
pub mod PackedWords
