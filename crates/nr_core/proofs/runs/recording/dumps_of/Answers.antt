use Rattle.std.proofs.Common.{◌≡◌, ◌++◌, [], ◌∷◌, rules}
use Rattle.std.proofs.lemmas.List.Elements.{All-push}
use Rattle.nr_trace.specs.Parts.{HasFrames}
use Rattle.nr_trace.specs.declared.formats.version.Version.TheVariants.{V1}
use Rattle.nr_core.specs.Run.{IsDumpOfReplica}
use Rattle.nr_core.specs.inside.Parts.{replica_in}
use Rattle.nr_core.proofs.Lists.{zipped_more}
use Rattle.nr_core.proofs.runs.recording.dumps_of.Goals as goal

pub loop-replica-preserved : goal.loop-replica-preserved
loop-replica-preserved c =
    let xs = c.loop-replica.dumps.items in
    let y = c.in_ok-dump_of.field-0 in
    let pushed : c.push.new.self.items ≡ xs ++ y ∷ [] = search rules in
    rw pushed (
      zipped_more (IsDumpOfReplica c.args.config.depth) replica_in c.args.replicas.now xs c.loop-replica.replica-index c.replica-item.result
          y c.loop-replica-test.true (search rules)
          c.loop-replica.invariant.0 c.in_ok-dump_of.ensures.is,
      All-push (HasFrames V1) xs y c.loop-replica.invariant.1 c.in_ok-dump_of.ensures.frames,
    )
