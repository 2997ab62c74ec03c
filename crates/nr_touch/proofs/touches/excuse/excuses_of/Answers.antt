use Rattle.std.proofs.Common.{◌+◌, List, sym, subst, arith}
use Rattle.nr_touch.specs.inside.Excused.{AreExcusedBelow}
use Rattle.nr_touch.specs.declared.touches.excuse.Excuse.{Excuse}
use Rattle.nr_touch.proofs.Excused.{none_stale, one_more, stale_at}
use Rattle.nr_touch.proofs.touches.excuse.excuses_of.Goals as goal

pub returns-in-None-clause-finds : goal.returns-in-None-clause-finds
returns-in-None-clause-finds c = λ b. stale_at b.before b.start b.segment c.args.touches.now c.loop-index.excuses.items c.loop-index.index
    (c.loop-index.invariant b) _ c.loop-index-test.true (rw c.in-None.is at (c.excuse_of.ensures b))

pub loop-index-preserved : goal.loop-index-preserved
loop-index-preserved c = λ b.
    subst (λ (list : List Excuse). AreExcusedBelow b.before b.start b.segment c.args.touches.now list (c.loop-index.index + 1))
    (sym c.in_ok-push-in-Some.ensures.items) (one_more b.before b.start b.segment c.args.touches.now c.loop-index.excuses.items c.loop-index.index
    (c.loop-index.invariant b) _ c.in-Some.excuse (rw c.in-Some.is at (c.excuse_of.ensures b)))

pub returns-clause-finds : goal.returns-clause-finds
returns-clause-finds c = λ b.
    none_stale b.before b.start b.segment c.args.touches.now c.loop-index.excuses.items c.loop-index.index (omega (arith, c.loop-index-test.false))
    (c.loop-index.invariant b)

pub returns-clause-excuses : goal.returns-clause-excuses
returns-clause-excuses c = λ b.
    let so = c.loop-index.invariant b in
    record { one_each = let many = so.one_each in omega (arith, many, c.loop-index-test.false, c.loop-index.auto.index-end); each = so.each }
