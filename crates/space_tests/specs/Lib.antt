pub mod Alike
pub use Rattle.vs_types.specs.Depth
pub use Rattle.vs_types.specs.Space
pub use Rattle.vs_types.specs.Step
pub use Rattle.vs_plain.specs.Plain
pub use Rattle.vs_space.specs.Table
