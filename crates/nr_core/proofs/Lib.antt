pub mod reached
mod Dumped
mod InTurn
mod Keeping
mod Lists
mod Starting
