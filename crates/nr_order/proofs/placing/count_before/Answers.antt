use Rattle.std.proofs.Common.{◌≡◌, ℕ, List, length, slice_get, refl, ap, ◌∙◌, subst, ◌+◌, ◌-◌}
use Rattle.nr_order.specs.inside.Counted.{AreCountedFrom}
use Rattle.nr_order.proofs.PlacedEvents.{counted_step, written}
use Rattle.nr_order.proofs.placing.count_before.Goals as goal

pub loop-passed-preserved : goal.loop-passed-preserved
loop-passed-preserved c =
    let borrowed = c.deref_mut.ensures.value in
    let same : length c.note.new.counts ≡ length c.loop-passed.counts.items = c.note.auto.counts ∙ ap length borrowed in
    let both = counted_step c.args.trace.now c.args.order.now c.loop-passed.passed _ c.loop-passed.before c.before_own-before.result
    c.loop-passed.counts.items c.note.new.counts c.loop-passed-test.true refl c.loop-passed.invariant.0 c.loop-passed.invariant.1
    c.before_own-before.ensures same c.note.ensures.own
    (λ other differs. c.note.ensures.others other differs ∙ ap (λ (counts : List ℕ). slice_get counts other) borrowed) in (
      both.0,
      subst (λ (counts : List ℕ). AreCountedFrom c.args.trace.now c.args.order.now (length c.args.order.now - (c.loop-passed.passed + 1)) counts)
          (written c.loop-passed.counts.len c.note.new.counts c.loop-passed.counts.items (c.note.auto.counts ∙ c.deref_mut.ensures.len)) both.1,
    )
