pub mod Run
pub mod RunState
pub mod SegmentRun
pub mod ChainOfRun
-- models and loops
pub mod inside
