use Rattle.std.proofs.Common.{ℕ, List, length, slice_get, ap, sym, subst, ◌∙◌}
use Rattle.nr_trace.specs.Recording.{Recording}
use Rattle.nr_audit.specs.inside.Tables.{IsReplyBelow}
use Rattle.nr_audit.proofs.RecordedOrder.{looked_up}
use Rattle.nr_audit.proofs.TouchLists.{answered_here, answered_nowhere}
use Rattle.nr_audit.proofs.checks.touches.is_answered_at.Goals as goal

pub returns-in-Some : goal.returns-in-Some
returns-in-Some c = λ some.
    answered_here c.args.segment.now c.args.place c.get.result c.in-Some.call
    (looked_up c.get.result c.log.result.now c.args.place c.get.ensures.lookup.0 c.get.ensures.lookup.1
    ∙ ap (λ (xs : List ℕ). slice_get xs c.args.place) c.log.ensures.reads) c.in-Some.is c.reply.result
    (subst (λ (t : Recording). IsReplyBelow t (length t.events) c.in-Some.call.now c.reply.result) c.requires c.reply.ensures)
    (sym c.is_some.ensures ∙ some)

pub returns-in-None : goal.returns-in-None
returns-in-None c = λ some.
    answered_nowhere c.args.segment.now c.args.place c.get.result
    (looked_up c.get.result c.log.result.now c.args.place c.get.ensures.lookup.0 c.get.ensures.lookup.1
    ∙ ap (λ (xs : List ℕ). slice_get xs c.args.place) c.log.ensures.reads) c.in-None.is
