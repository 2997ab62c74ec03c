pub mod Hexadecimals
pub mod Texts
pub mod Alone
pub mod ByName
pub mod OneRequest
pub mod Cuts
pub mod ReadBack
