use Rattle.std.proofs.Common.{◌≡◌, ◌+◌, ◌<◌, List, Option, length, sym, ap, subst, ◌∙◌, arith}
use Rattle.nr_dump.specs.declared.fault.DumpFault.{DumpFault}
use Rattle.nr_audit.specs.inside.Dumps.{AreCompared}
use Rattle.nr_audit.proofs.DumpFaults.{read_dump}
use Rattle.nr_audit.proofs.ComparedDumps.{compared_without, compared_with}
use Rattle.nr_audit.proofs.checks.dumps.compare_dumps.Goals as goal
use Rattle.nr_audit.proofs.checks.dumps.compare_dumps.Goals.{then-applied+in_ok-found, else-applied}

-- src/dumps.rt:56:5
pub loop-replica-preserved : goal.loop-replica-preserved
loop-replica-preserved c =
    let trace = c.args.trace.now in
    let replica = c.loop-replica.replica in
    let dump = c.index-dumps-replica.result in
    let low : replica < length trace.dumps = omega (arith, c.loop-replica-test.true, ap length c.dumps-replica-end.ensures.reads) in
    let is = read_dump c.dumps.result.now trace.dumps replica dump c.dumps.ensures.reads low c.index-dumps-replica.is in
    let are = c.loop-replica.invariant in
    elim c.if-applied.branch [
      | then-applied+in_ok-found w ↦
          let same : dump.applied ≡ c.args.applied = sym c.applied.ensures ∙ w.if-applied.true in
          let within : replica < length c.loop-replica.faults =
          omega (arith, low, are.as_many, c.told-faults, c.dumps.ensures.in_range.one_dump_each, c.dumps.ensures.in_range.layout.few_replicas) in
          subst (λ (faults : List (Option DumpFault)). AreCompared trace c.args.space.now c.args.applied (replica + 1) c.args.faults.now faults)
          (sym w.faults-is)
          (compared_with trace c.args.space.now c.args.applied replica c.args.faults.now c.loop-replica.faults dump is are w.in_ok-found.found same within
          w.in_ok-found.ensures)
      | else-applied w ↦
          subst (λ (faults : List (Option DumpFault)). AreCompared trace c.args.space.now c.args.applied (replica + 1) c.args.faults.now faults)
          (sym w.faults-is)
          (compared_without trace c.args.space.now c.args.applied replica c.args.faults.now c.loop-replica.faults dump is are
          (λ same. w.if-applied.false (c.applied.ensures ∙ same)))
    ]
