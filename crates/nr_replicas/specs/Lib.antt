pub mod Replicas
pub mod Settled
-- models and loops
pub mod inside
pub use Rattle.vs_types.specs.Operation
pub use Rattle.vs_types.specs.Depth
pub use Rattle.vs_types.specs.Step
pub use Rattle.vs_walk.specs.Walk
pub use Rattle.nr_ring.specs.LogHistory
pub use Rattle.nr_node.specs.Node
