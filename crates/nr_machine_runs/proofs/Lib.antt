mod Histories
mod Values
mod Growing
mod Opened
mod Given
mod Noted
mod Ended
mod Steps
mod Faultless
pub mod Example
