pub mod Differing
pub mod Taking
pub mod Outside
pub mod Fitting
pub mod Faultless
