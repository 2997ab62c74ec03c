use Rattle.std.proofs.Common.{◌≡◌, ◌∙◌, map, subst, sym}
use Rattle.nr_order.specs.WithOrder.{placed_by, with_order}
use Rattle.nr_order.specs.inside.Counted.{AreCounted}
use Rattle.nr_order.proofs.PlacedEvents.{made_of, no_start_read, some_with, whole_of}
use Rattle.nr_order.proofs.placing.with_order.Goals as goal

pub returns : goal.returns
returns c =
    let trace = c.args.trace.now in
    let order = c.args.order.now in
    let counted : AreCounted trace order c.deref.result.now = subst (AreCounted trace order) (sym c.deref.ensures.value) c.in_ok-counts.ensures in
    let events : c.in-Some.events.items ≡ map (placed_by trace order) trace.events =
    some_with c.in_ok-events.field-0 c.in-Some.events (λ v. v.items ≡ map (placed_by trace order) trace.events) c.in-Some.is
    (c.in_ok-events.ensures order counted) in
    let start = no_start_read c.start.result trace.start c.start.ensures.reads (sym c.is_some.ensures ∙ c.if-is_some.false) in
    made_of _ _ (with_order trace order) _ c.new.result c.ok.result c.ok.ensures.value c.new.ensures
    (whole_of trace order c.in_ok-log.log.items c.in-Some.events.items c.in_ok-dumps.dumps.items c.version.result c.layout.result c.version.ensures.reads
    c.layout.ensures.reads start c.in_ok-log.ensures events (c.in_ok-dumps.ensures ∙ c.dumps.ensures.reads))
