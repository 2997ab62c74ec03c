use Rattle.std.proofs.Common.{map, take}
use Rattle.std.specs.Prelude.{All}
use Rattle.std.specs.List.{AllZip}
use Rattle.nr_trace.specs.Parts.{HasFrames}
use Rattle.nr_trace.specs.declared.formats.version.Version.TheVariants.{V1}
use Rattle.nr_core.specs.Run.{IsDumpOfReplica}
use Rattle.nr_core.specs.inside.Parts.{replica_in}
use Rattle.nr_core.proofs.runs.recording.dumps_of.Given as goal

abbrev pub invariant-loop-replica : goal.invariant-loop-replica
invariant-loop-replica l =
    AllZip (IsDumpOfReplica l.config.depth) (map replica_in (take l.replica-index l.replicas)) l.dumps.items
    × All (HasFrames V1) l.dumps.items
