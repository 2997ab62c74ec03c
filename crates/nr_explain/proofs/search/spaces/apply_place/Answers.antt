use Rattle.std.proofs.Common.{ℕ, List, take, get_or, sym, ap, subst, ◌∙◌}
use Rattle.vs_types.specs.Query.{IsQuery}
use Rattle.vs_plain.specs.Plain.{BoundedSpace}
use Rattle.nr_trace.specs.Orders.{space_from}
use Rattle.nr_audit.specs.Verdict.{space_of}
use Rattle.nr_trace.specs.Calls.{request_of}
use Rattle.nr_audit.specs.Served.{Serves}
use Rattle.nr_audit.proofs.AnswerFaults.{space_visits, space_stays, left}
use Rattle.nr_explain.proofs.search.spaces.apply_place.Goals as goal

pub serve-requires : goal.serve-requires
serve-requires c = subst (λ (s : BoundedSpace). IsQuery s.depth c.in-Some.request) (sym c.requires.before.1) c.in-Some.ensures.well_formed

pub returns-in_ok-serve-clause-ok : goal.returns-in_ok-serve-clause-ok
returns-in_ok-serve-clause-ok c = λ start before.
    let trace = c.args.trace.now in
    let log = trace.log in
    let asks = c.request_of.ensures.asks
    ∙ ap (λ (xs : List ℕ). request_of trace (get_or xs c.args.place 0)) c.log-log.ensures.reads in
    let serves = subst (λ (s : BoundedSpace). Serves s c.in-Some.request c.in_ok-serve.field-0 c.serve.new.space) before c.in_ok-serve.ensures.ok in
    left trace.layout (space_from start trace (take c.args.place log)) c.in-Some.request _ c.serve.new.space serves
    ∙ ap (λ s. space_of trace.layout s) (space_visits start trace log c.args.place 0 c.in-Some.request c.requires.within (sym c.in-Some.is ∙ asks))

pub returns-in_default-clause-ok : goal.returns-in_default-clause-ok
returns-in_default-clause-ok c = λ start before.
    let trace = c.args.trace.now in
    let asks = c.request_of.ensures.asks
    ∙ ap (λ (xs : List ℕ). request_of trace (get_or xs c.args.place 0)) c.log-log.ensures.reads in
    before ∙ ap (λ s. space_of trace.layout s) (space_stays start trace trace.log c.args.place 0 c.requires.within (sym asks ∙ c.in_default.is))
