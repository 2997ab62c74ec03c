use Rattle.std.proofs.Common.{subst, sym}
use Rattle.vs_types.specs.Finds.{Finds}
use Rattle.nr_trace.specs.inside.Reading.{IsTouchWith}
use Rattle.nr_trace.proofs.Touches.{no_touch}
use Rattle.nr_trace.proofs.reading.events.touch_of.Goals as goal

pub returns-in_err-request : goal.returns-in_err-request
returns-in_err-request c =
    subst (Finds (IsTouchWith c.args.depth c.args.fields)) (sym c.from_residual.ensures)
    (no_touch c.args.depth c.args.fields c.in_err-request.ensures)
