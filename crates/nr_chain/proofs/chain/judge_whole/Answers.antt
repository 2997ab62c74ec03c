use Rattle.std.proofs.Common.{sym, subst}
use Rattle.vs_types.specs.Config.{Layout}
use Rattle.nr_trace.specs.declared.refusals.fault.Fault.{Fault}
use Rattle.nr_audit.specs.Faults.{IsFirstAfter}
use Rattle.nr_audit.specs.Segments.{FitsPast}
use Rattle.nr_chain.proofs.Betweens.{fresh_between}
use Rattle.nr_chain.proofs.Pieces.{ended}
use Rattle.nr_chain.proofs.Wholes.{behind, fits_before, judged_right, judged_wrong, not_refused}
use Rattle.nr_chain.proofs.chain.judge_whole.Goals as goal

pub unreachable-requires : goal.unreachable-requires
unreachable-requires c = not_refused c.args.feed c.in-Err.field-0 c.requires.whole c.in-Err.ensures

pub judge_last-requires : goal.judge_last-requires
judge_last-requires c =
    fits_before c.args.last c.past_of-before.result c.args.feed c.in-Ok.segment c.past_of-before.ensures c.requires.behind c.requires.fits
    (ended c.args.feed c.in-Ok.segment c.requires.whole c.in-Ok.ensures)

pub invariant_of-next : goal.invariant_of-next
invariant_of-next c =
    fresh_between _ c.new-feed.result c.new-feed.ensures
    (subst (λ (l : Layout). FitsPast l c.in-Ok-judge_last.past) (sym c.layout-layout.ensures.reads) c.in-Ok-judge_last.ensures.fits)

pub returns-in-Ok-judge_last-clause-judges : goal.returns-in-Ok-judge_last-clause-judges
returns-in-Ok-judge_last-clause-judges c = λ run kept.
    let spelled = ended c.args.feed c.in-Ok.segment c.requires.whole c.in-Ok.ensures in
    let there = behind run c.args.last c.past_of-before.result c.args.feed c.in-Ok.segment c.past_of-before.ensures c.requires.behind kept spelled in
    judged_right run c.args.last c.args.feed c.new-feed.result c.in-Ok.segment c.layout-layout.result c.args.count
    c.in-Ok-judge_last.order c.in-Ok-judge_last.past c.in-Ok-judge_last.met kept c.requires.behind c.layout-layout.ensures.reads spelled
    (c.in-Ok-judge_last.ensures.sound run there) c.in-Ok-judge_last.ensures.order (c.in-Ok-judge_last.ensures.kept run there)
    (c.in-Ok-judge_last.ensures.met run there) c.new-feed.ensures

pub returns-in-Err-Refused-clause-judges : goal.returns-in-Err-Refused-clause-judges
returns-in-Err-Refused-clause-judges c = λ run kept.
    let spelled = ended c.args.feed c.in-Ok.segment c.requires.whole c.in-Ok.ensures in
    let there = behind run c.args.last c.past_of-before.result c.args.feed c.in-Ok.segment c.past_of-before.ensures c.requires.behind kept spelled in
    judged_wrong run c.args.last c.args.feed c.in-Ok.segment c.args.count _ kept c.requires.behind spelled
    (subst (λ (f : Fault). IsFirstAfter run c.in-Ok.segment f) (sym c.in-Err-Refused.fault-is)
    (rw c.in-Err-Refused.field-0-is at (c.in-Err-Refused.ensures.first run there)))
