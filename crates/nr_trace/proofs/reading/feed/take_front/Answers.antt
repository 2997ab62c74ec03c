use Rattle.std.proofs.Common.{◌++◌, subst, sym}
use Rattle.nr_trace.specs.FirstFault.{IsRefusedBy}
use Rattle.nr_trace.specs.inside.Progress.{Ahead}
use Rattle.nr_trace.proofs.Feeding.{front_refused}
use Rattle.nr_trace.proofs.reading.feed.take_front.Goals as goal

pub returns-in-Err-Refused : goal.returns-in-Err-Refused
returns-in-Err-Refused c =
    let given = rw c.in-Err-Refused.field-0-is at c.in-Err-Refused.ensures in
    subst (IsRefusedBy (Ahead c.args.reader) (c.args.run.now ++ c.args.behind.now)) (sym c.and_then.ensures)
    (front_refused (Ahead c.args.reader) c.args.run.now c.args.behind.now c.in-Err-Refused.refusal given)
