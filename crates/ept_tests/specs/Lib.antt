pub mod Ept
