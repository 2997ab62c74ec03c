use Rattle.std.proofs.Common.{◌≡◌, ℕ, List, [], ◌∷◌, ◌++◌, ◌<◌, All, ap, sym, subst, ◌∙◌}
use Rattle.std.specs.Prelude.{None, Some, Option, vec_capacity}
use Rattle.vs_types.specs.Query.{IsQuery}
use Rattle.nr_trace.specs.declared.recordings.event.Event.{Event}
use Rattle.nr_trace.specs.declared.recordings.event.Event.TheVariants.{Call}
use Rattle.nr_trace.specs.declared.recordings.event.Asked.TheVariants as askeds
use Rattle.nr_record.specs.Pen.{PenState, calls_in, stamped}
use Rattle.nr_record.specs.declared.stamped.Stamped.{Stamped}
use Rattle.nr_record.specs.inside.Held.{IsHeld}
use Rattle.nr_record.proofs.Notes.{held_call, later_made}
use Rattle.nr_record.proofs.pen.Pen.call.Goals as goal

pub invariant_of-self : goal.invariant_of-self
invariant_of-self c =
    let inside = c.self.inside in
    let view = inside.seat.me.0 in
    let made = inside.made.items in
    let room = vec_capacity inside.made in
    let stamp = c.draw-stamp.result in
    let is = c.self.view_is in
    let none : inside.waiting ≡ None = ap (λ (p : PenState). p.waiting) is ∙ c.requires.none_waiting in
    let held = subst (λ (w : Option ℕ). IsHeld view inside.replica inside.thread w room made) none c.self.invariant.1 in
    let quota = subst (λ (p : PenState). calls_in p.made < p.quota) (sym is) c.requires.quota in
    let fits = subst (λ (p : PenState). IsQuery p.clock.layout.depth c.args.request) (sym is) c.requires.fits in
    let items : c.note.new.made.items ≡ made ++ stamped stamp (Call inside.replica inside.thread (askeds.Request c.args.request)) ∷ [] =
    c.note.ensures.0 ∙ ap (λ (e : Event). made ++ stamped stamp e ∷ []) c.of-event.ensures in
    let after = held_call view c.draw-stamp.new.seat.me.0 inside.replica inside.thread stamp room (vec_capacity c.note.new.made) made c.args.request
    held c.draw-stamp.ensures.drawn quota fits c.note.ensures.1 in
    let Is : List Stamped → Type 0 =
    λ xs. IsHeld c.draw-stamp.new.seat.me.0 inside.replica inside.thread (Some stamp) (vec_capacity c.note.new.made) xs in
    (c.draw-stamp.ensures.held ∙ c.self.invariant.0, subst Is (sym items) after)

pub returns-clause-later : goal.returns-clause-later
returns-clause-later c =
    let all = later_made c.self.inside.made.items c.self.inside.seat.me.0.stamps c.draw-stamp.result c.self.invariant.1.same c.draw-stamp.ensures.drawn.later in
    subst (λ (p : PenState). All (λ item. item.stamp < c.draw-stamp.result) p.made) c.self.view_is all
