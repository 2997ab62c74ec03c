use Rattle.std.proofs.Common.{◌≡◌, ◌++◌, arith}
use Rattle.std.specs.Int.{w32, w64, to_be_bytes}
use Rattle.nr_trace.proofs.Counts.{nothing_then}
use Rattle.nr_trace.proofs.reading.dumps.dump_head_of.Goals as goal

pub returns-then-root-ne0 : goal.returns-then-root-ne0
returns-then-root-ne0 c = λ head spells.
    let parts : c.args.unit.now ≡ to_be_bytes w32 c.take_u32-applied.result.0 ++ (to_be_bytes w32 c.take_u32-frames.result.0 ++
    (to_be_bytes w64 c.take_u64-root.result.0 ++ c.take_u64-root.result.1.now)) = cc in
    let nothing = nothing_then c.args.version c.args.unit.now _ _ _ _ parts (omega arith) (omega arith) (omega arith) (omega arith) head spells in
    absurd (omega (arith, nothing.0, nothing.1))
