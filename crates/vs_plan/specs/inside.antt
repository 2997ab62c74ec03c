-- What a planner keeps on its way: no public clause cites it but through `IsShown`.
pub mod Ended
