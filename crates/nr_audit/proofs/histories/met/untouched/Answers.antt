use Rattle.std.proofs.Common.{List, sym, subst}
use Rattle.nr_touch.specs.Excuses.{AreExcusedBy}
use Rattle.nr_touch.specs.declared.touches.excuse.Excuse.{Excuse}
use Rattle.nr_touch.specs.declared.touches.touch.Touch.{Touch}
use Rattle.nr_audit.specs.Met.{AreTouchesOf}
use Rattle.nr_audit.proofs.Untouched.{no_excuses, no_touches_of, none_beside}
use Rattle.nr_audit.proofs.histories.met.untouched.Goals as goal

pub returns-clause-met : goal.returns-clause-met
returns-clause-met c = λ before start.
    let segment = c.args.segment.now in
    c.in_ok-met.ensures before start
    (rw (c.deref.ensures.value, c.new-touches.ensures.items) (no_touches_of segment c.requires))
    (rw (c.deref.ensures.value, c.new-touches.ensures.items, c.deref-2.ensures.value, c.new-excuses.ensures.items) (no_excuses before start segment))
    (none_beside segment c.requires start)
