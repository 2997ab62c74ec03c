pub mod Batches
pub mod Keeps
pub mod Goes
