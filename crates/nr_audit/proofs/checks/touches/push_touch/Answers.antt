use Rattle.std.proofs.Common.{◌+◌, sym, subst}
use Rattle.nr_audit.specs.inside.Begun.{AreTouchesBelow, IsTouchAt}
use Rattle.nr_audit.proofs.TouchLists.{no_more, one_more_touch}
use Rattle.nr_audit.proofs.checks.touches.push_touch.Goals as goal

pub returns-in-None : goal.returns-in-None
returns-in-None c =
    no_more c.args.segment.now c.args.made c.args.touches.now.items
    (subst (IsTouchAt c.args.segment.now c.args.made) c.in-None.is c.answered_touch.ensures)

pub returns-in_ok-push-in-Some : goal.returns-in_ok-push-in-Some
returns-in_ok-push-in-Some c = λ below.
    let touch = subst (IsTouchAt c.args.segment.now c.args.made) c.in-Some.is c.answered_touch.ensures in
    subst (AreTouchesBelow c.args.segment.now (c.args.made + 1)) (sym c.in_ok-push-in-Some.ensures.items)
    (one_more_touch c.args.segment.now c.args.made c.args.touches.now.items c.in-Some.touch touch.0 touch.1 touch.2 below)
