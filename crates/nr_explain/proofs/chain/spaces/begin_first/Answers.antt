use Rattle.std.proofs.Common.{None}
use Rattle.nr_audit.specs.Start.{BeginsWrong}
use Rattle.nr_explain.proofs.chain.spaces.begin_first.Goals as goal

pub unreachable-requires : goal.unreachable-requires
unreachable-requires c =
    let wrong : BeginsWrong None c.args.segment.now c.in-Err-Refused.field-0-0 = rw c.in-Err-Refused.field-0-is at c.in-Err-Refused.ensures.first in
    c.requires _ wrong.holds
