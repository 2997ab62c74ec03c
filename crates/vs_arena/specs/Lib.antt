pub mod Store
pub mod Arena
pub mod Marked
pub mod LentMarks
pub mod Lent
pub mod inside
pub use Rattle.vs_types.specs.Frame
