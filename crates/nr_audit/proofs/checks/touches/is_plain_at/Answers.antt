use Rattle.std.proofs.Common.{◌≡◌, ℕ, List, false, slice_get, ap, subst, ◌∙◌}
use Rattle.nr_trace.specs.Calls.{operation_of}
use Rattle.nr_trace.specs.Recording.{Recording}
use Rattle.nr_audit.specs.inside.Begun.{is_protect}
use Rattle.nr_audit.proofs.RecordedOrder.{looked_up}
use Rattle.nr_audit.proofs.TouchLists.{plain_here, plain_nowhere}
use Rattle.nr_audit.proofs.checks.touches.is_plain_at.Goals as goal

pub returns-in-Some : goal.returns-in-Some
returns-in-Some c = λ plain.
    plain_here c.args.segment.now c.args.place c.get.result c.in-Some.call
    (looked_up c.get.result c.log.result.now c.args.place c.get.ensures.lookup.0 c.get.ensures.lookup.1
    ∙ ap (λ (xs : List ℕ). slice_get xs c.args.place) c.log.ensures.reads) c.in-Some.is
    (subst (λ (t : Recording). is_protect (operation_of t c.in-Some.call.now) ≡ false) c.requires (c.is_plain.ensures plain))

pub returns-in-None : goal.returns-in-None
returns-in-None c = λ plain.
    plain_nowhere c.args.segment.now c.args.place c.get.result
    (looked_up c.get.result c.log.result.now c.args.place c.get.ensures.lookup.0 c.get.ensures.lookup.1
    ∙ ap (λ (xs : List ℕ). slice_get xs c.args.place) c.log.ensures.reads) c.in-None.is
