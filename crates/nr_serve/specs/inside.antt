-- Loop invariants and the insides of models: no public clause cites them.
pub mod Calls
pub mod Working
pub mod Ending
pub mod Segment
pub mod SegmentEnd
