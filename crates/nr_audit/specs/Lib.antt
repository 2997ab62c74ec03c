-- the promise
pub mod Verdict
pub mod Headline
pub mod Dumps
pub mod Served
-- a segment, and the space before it
pub mod Start
pub mod Touches
pub mod Meetings
pub mod Met
pub mod Releases
pub mod Faults
pub mod Segments
-- the passes
pub mod inside
pub use Rattle.vs_types.specs.Space
pub use Rattle.vs_types.specs.Refusal
pub use Rattle.vs_plain.specs.Plain
pub use Rattle.nr_trace.specs.Recording
pub use Rattle.nr_trace.specs.Faults as FaultsOfTraces
pub use Rattle.nr_touch.specs.Touches as TouchesOfTraces
pub use Rattle.nr_touch.specs.Releases as ReleasesOfTraces
