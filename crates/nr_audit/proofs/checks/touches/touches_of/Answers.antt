use Rattle.std.proofs.Common.{◌≡◌, length, List, refl, ap, sym, subst, arith}
use Rattle.nr_trace.specs.declared.recordings.event.Event.{Event}
use Rattle.nr_audit.specs.inside.Begun.{AreTouchesBelow}
use Rattle.nr_audit.proofs.NeededEntries.{needs_at_start}
use Rattle.nr_audit.proofs.TouchLists.{none_below}
use Rattle.nr_audit.proofs.checks.touches.touches_of.Goals as goal

pub loop-made-init : goal.loop-made-init
loop-made-init c = record {
  touches = subst (AreTouchesBelow c.args.segment.now 0) (sym c.new-touches.ensures.items) (none_below c.args.segment.now);
  needs = needs_at_start c.args.segment.now _ refl;
}

pub loop-made-preserved : goal.loop-made-preserved
loop-made-preserved c = record {
  touches = c.in_ok-push_touch.ensures c.loop-made.invariant.touches;
  needs = c.pass.ensures c.loop-made.invariant.needs;
}

pub pass-requires-clause-within : goal.pass-requires-clause-within
pass-requires-clause-within c =
    let same = ap (λ (es : List Event). length es) c.events-made-end.ensures.reads in
    omega arith

pub push_touch-requires-clause-few : goal.push_touch-requires-clause-few
push_touch-requires-clause-few c =
    let same = ap (λ (es : List Event). length es) c.events-made-end.ensures.reads in
    let few = c.events-made-end.ensures.in_range.few_events in
    omega arith

pub returns : goal.returns
returns c =
    let same = ap (λ (es : List Event). length es) c.events-made-end.ensures.reads in
    let end : c.loop-made.made ≡ length c.args.segment.now.events = omega arith in
    subst (λ n. AreTouchesBelow c.args.segment.now n c.loop-made.touches.items) end c.loop-made.invariant.touches
