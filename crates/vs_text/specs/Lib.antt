pub use Rattle.vs_types.specs.Query
pub mod Words
pub mod Requests
pub mod inside
