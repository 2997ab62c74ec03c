pub mod Plain
pub mod inside
pub use Rattle.vs_types.specs.Depth
pub use Rattle.vs_types.specs.Page
pub use Rattle.vs_types.specs.Access
pub use Rattle.vs_types.specs.Operation
pub use Rattle.vs_types.specs.Space
pub use Rattle.vs_types.specs.Step
