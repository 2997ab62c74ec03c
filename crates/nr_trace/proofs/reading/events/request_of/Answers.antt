use Rattle.std.proofs.Common.{◌≡◌, true, subst, sym}
use Rattle.nr_trace.specs.Versions.{KnowsQuery}
use Rattle.nr_trace.proofs.Events.{request_unknown}
use Rattle.nr_trace.proofs.reading.events.request_of.Goals as goal

pub returns-else-knows_query : goal.returns-else-knows_query
returns-else-knows_query c =
    request_unknown c.args.version c.args.depth c.args.fields c.in_ok-request.request c.in_ok-request.ensures
    (λ known. let yes : c.knows_query.result ≡ true =
    c.knows_query.ensures.1 (subst (KnowsQuery c.args.version) (sym c.query.ensures.reads) known) in absurd cc)
