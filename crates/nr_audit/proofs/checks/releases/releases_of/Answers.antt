use Rattle.std.proofs.Common.{◌≡◌, length, List, ap, sym, subst, arith}
use Rattle.nr_trace.specs.declared.recordings.event.Event.{Event}
use Rattle.nr_audit.specs.inside.Begun.{AreReleasesBelow}
use Rattle.nr_audit.proofs.ReleaseLists.{all_memory, none_below}
use Rattle.nr_audit.proofs.checks.releases.releases_of.Goals as goal

pub loop-made-init : goal.loop-made-init
loop-made-init c = subst (AreReleasesBelow c.args.segment.now 0) (sym c.new-releases.ensures.items) (none_below c.args.segment.now)

pub push_release-requires-clause-few : goal.push_release-requires-clause-few
push_release-requires-clause-few c =
    let same = ap (λ (es : List Event). length es) c.events-made-end.ensures.reads in
    let few = c.events-made-end.ensures.in_range.few_events in
    omega arith

pub returns-clause-below : goal.returns-clause-below
returns-clause-below c =
    let same = ap (λ (es : List Event). length es) c.events-made-end.ensures.reads in
    let end : c.loop-made.made ≡ length c.args.segment.now.events = omega arith in
    subst (λ n. AreReleasesBelow c.args.segment.now n c.loop-made.releases.items) end c.loop-made.invariant

pub returns-clause-memory : goal.returns-clause-memory
returns-clause-memory c =
    let same = ap (λ (es : List Event). length es) c.events-made-end.ensures.reads in
    let end : c.loop-made.made ≡ length c.args.segment.now.events = omega arith in
    all_memory c.args.segment.now c.events-made-end.ensures.in_range c.loop-made.releases.items
    (subst (λ n. AreReleasesBelow c.args.segment.now n c.loop-made.releases.items) end c.loop-made.invariant)
