-- What keeps parts from making a trace.
use Rattle.std.specs.Prelude.{◌≡◌, ◌≢◌, ℕ, ◌<◌, ◌≤◌, ◌⊎◌, List, length, take, slice_get, All, Any, Some, IfSome}
use Rattle.std.specs.FinMap as finite
use Rattle.vs_types.specs.Config.{Layout, IsLayoutWithin}
use Rattle.vs_types.specs.declared.limits.TheConstants.{LOG_PLACES, CALLS}
use Rattle.vs_walk.specs.Dump.{Image}
use Rattle.nr_trace.specs.Recording.{Recording, IsEvent, IsStart, start_frames}
use Rattle.nr_trace.specs.Versions.{KnowsDepth, least_frames, most_frames, most_start, most_tables, most_threads}
use Rattle.nr_trace.specs.declared.formats.version.Version.{Version}
use Rattle.nr_trace.specs.declared.recordings.event.Event.{Event}
use Rattle.nr_trace.specs.declared.refusals.fault.Format.{Format}
use Rattle.nr_trace.specs.declared.refusals.fault.Format.TheVariants.{Truncated, BadMagic, BadVersion, BadCount, BadChain, BadStart, BadEvent, BadFrame, Trailing}

-- a start, where there is one, of the version
abbrev pub HasStart : Recording → Type 0
HasStart parts = IfSome parts.start IsStart × (start_frames parts.start ≤ most_start parts.version)

-- more threads or tables than the version has, a depth that it does not know, a start that is none, too many places or events, or not one
-- dump for each replica
abbrev pub HasBadCount : Recording → Type 0
HasBadCount parts =
    (IsLayoutWithin (most_threads parts.version) (most_tables parts.version) parts.layout → ⊥)
    ⊎ ((KnowsDepth parts.version parts.layout.depth → ⊥) ⊎ ((HasStart parts → ⊥)
    ⊎ ((LOG_PLACES < length parts.log) ⊎ ((CALLS < length parts.events) ⊎ (length parts.dumps ≢ parts.layout.replicas)))))

-- as many frames as the version has; without frames all is 0
abbrev pub HasFrames : Version → Image → Type 0
HasFrames version dump =
    (least_frames version ≤ finite.len dump.frames) × (finite.len dump.frames ≤ most_frames version)
    × (finite.len dump.frames ≡ 0 → (dump.applied ≡ 0) × (dump.root ≡ 0))

-- the dump lacks frames, or has more than the version allows
abbrev pub LacksFrames : Version → Image → Type 0
LacksFrames version dump = HasFrames version dump → ⊥

-- the event of this index is out of its range, and none before is
pub record IsFirstOut (version : Version) (layout : Layout) (events : List Event) (index : ℕ) : Type 0 where
  pub before : All (IsEvent version layout) (take index events)
  pub recorded : Event
  pub stands : slice_get events index ≡ Some recorded
  pub out : IsEvent version layout recorded → ⊥

-- the first thing that is wrong: a count, the first event out of its range, a dump without frames or with too many
abbrev pub IsPartsFault : Recording → Format → Type 0
IsPartsFault parts BadCount =
    HasBadCount parts ⊎ ((HasBadCount parts → ⊥) × All (IsEvent parts.version parts.layout) parts.events × Any (LacksFrames parts.version) parts.dumps)
IsPartsFault parts (BadEvent index) =
    (HasBadCount parts → ⊥) × IsFirstOut parts.version parts.layout parts.events index
IsPartsFault parts Truncated = ⊥
IsPartsFault parts BadMagic = ⊥
IsPartsFault parts BadVersion = ⊥
IsPartsFault parts BadChain = ⊥
IsPartsFault parts (BadStart index) = ⊥
IsPartsFault parts (BadFrame replica index) = ⊥
IsPartsFault parts Trailing = ⊥
