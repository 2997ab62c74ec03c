pub mod Faults
pub mod inside
pub use Rattle.vs_types.specs.Depth
pub use Rattle.vs_types.specs.Space
pub use Rattle.vs_types.specs.Refusal
pub use Rattle.vs_walk.specs.Traversal
pub use Rattle.vs_walk.specs.Differences
pub use Rattle.vs_walk.specs.Dump
