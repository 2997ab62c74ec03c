pub mod Numbers
pub mod Told
pub mod Chains
pub mod Calls
pub mod inside
