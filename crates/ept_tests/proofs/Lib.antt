pub mod EptWords
pub mod Lowest
