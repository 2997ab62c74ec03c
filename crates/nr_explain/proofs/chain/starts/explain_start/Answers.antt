use Rattle.std.proofs.Common.{Option, ap, sym, ◌∙◌, subst}
use Rattle.vs_types.specs.Config.{Layout}
use Rattle.nr_trace.specs.declared.refusals.fault.Fault.{Fault}
use Rattle.nr_trace.specs.declared.refusals.fault.Fault.TheVariants.{StartDiffers}
use Rattle.nr_explain.specs.inside.Reading.{all_states, space_seen, IsShownSeen}
use Rattle.nr_explain.specs.inside.Starts.{IsShownInStart}
use Rattle.nr_explain.specs.declared.chain.progress.Progress.{Progress}
use Rattle.nr_explain.specs.declared.chain.evidence.SegmentEvidence.TheVariants as evidence
use Rattle.nr_explain.proofs.StartsShown.{shown_differs, shown_in_start, tables_first}
use Rattle.std.proofs.lemmas.Result.{IfOk-weaker}
use Rattle.nr_explain.proofs.chain.starts.explain_start.Goals as goal

pub explain_tables-requires : goal.explain_tables-requires
explain_tables-requires c =
    tables_first (space_seen (all_states c.args.last.now)) c.args.segment.now c.in-Some.start.now c.depth-depth.result c.args.fault
    (sym c.in-Some.ensures.reads) (c.depth-depth.ensures ∙ ap (λ (l : Layout). l.depth) c.layout.ensures.reads) c.requires.of_start c.requires.first
    c.in_default-fault.not-StartDiffers

pub returns-in_ok-start_differs-in-Some-last : goal.returns-in_ok-start_differs-in-Some-last
returns-in_ok-start_differs-in-Some-last c =
    let segment = c.args.segment.now in
    let wrong = c.in_ok-start_differs-in-Some-last.field-0 in
    subst (λ (f : Fault). IsShownSeen (all_states c.args.last.now) segment f (evidence.StartDiffers wrong)) (sym c.in-StartDiffers.is)
    (subst (λ (l : Option Progress). IsShownSeen (all_states l) segment (StartDiffers c.in-StartDiffers.address) (evidence.StartDiffers wrong))
    (sym c.in-Some-last.is)
    (shown_differs c.in-Some-last.came segment c.in-Some.start.now c.depth-depth.result wrong c.in-StartDiffers.address (sym c.in-Some.ensures.reads)
    (c.depth-depth.ensures ∙ ap (λ (l : Layout). l.depth) c.layout.ensures.reads) c.in_ok-start_differs-in-Some-last.ensures.address
    c.in_ok-start_differs-in-Some-last.ensures.is))

pub returns-in_default-fault : goal.returns-in_default-fault
returns-in_default-fault c =
    let segment = c.args.segment.now in
    let start = c.in-Some.start.now in
    let depth = c.depth-depth.result in
    IfOk-weaker c.explain_tables.result (IsShownInStart depth start c.args.fault) (IsShownSeen (all_states c.args.last.now) segment c.args.fault)
    (λ shown is. shown_in_start c.args.last.now segment start depth c.args.fault shown (sym c.in-Some.ensures.reads)
    (c.depth-depth.ensures ∙ ap (λ (l : Layout). l.depth) c.layout.ensures.reads) is) c.explain_tables.ensures
