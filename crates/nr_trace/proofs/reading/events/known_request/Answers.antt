use Rattle.std.proofs.Common.{subst, sym}
use Rattle.vs_types.specs.Finds.{Finds}
use Rattle.nr_trace.specs.inside.Reading.{IsAskedIn}
use Rattle.nr_trace.proofs.Touches.{requests_asked}
use Rattle.nr_trace.proofs.reading.events.known_request.Goals as goal

pub returns-in_err-request : goal.returns-in_err-request
returns-in_err-request c =
    subst (Finds (IsAskedIn c.args.version c.args.depth c.args.fields)) (sym c.from_residual.ensures)
    (requests_asked c.args.version c.args.depth c.args.fields c.requires.touch c.requires.release c.in_err-request.ensures)
