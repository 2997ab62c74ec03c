use Rattle.std.proofs.Common.{◌≡◌, ℕ, List, [], ◌∷◌, ◌++◌, ◌<◌, All, ap, sym, subst, ◌∙◌}
use Rattle.std.specs.Prelude.{None, Option, vec_capacity}
use Rattle.nr_trace.specs.declared.recordings.event.Event.{Event}
use Rattle.nr_trace.specs.declared.recordings.event.Event.TheVariants.{Reply}
use Rattle.nr_record.specs.Pen.{PenState, stamped}
use Rattle.nr_record.specs.declared.stamped.Stamped.{Stamped}
use Rattle.nr_record.specs.inside.Held.{IsHeld}
use Rattle.nr_record.proofs.Notes.{held_reply, later_made}
use Rattle.nr_record.proofs.pen.Pen.reply.Goals as goal

pub invariant_of-self : goal.invariant_of-self
invariant_of-self c =
    let inside = c.self.inside in
    let view = inside.seat.me.0 in
    let made = inside.made.items in
    let room = vec_capacity inside.made in
    let stamp = c.draw-stamp.result in
    let call = c.in-Some.call in
    let held = subst (λ (w : Option ℕ). IsHeld view inside.replica inside.thread w room made) c.in-Some.is c.self.invariant.1 in
    let items : c.note.new.made.items ≡ made ++ stamped stamp (Reply call c.args.at c.args.answer) ∷ [] =
    c.note.ensures.0 ∙ ap (λ (e : Event). made ++ stamped stamp e ∷ []) c.reply_of-event.ensures.event in
    let after = held_reply view c.draw-stamp.new.seat.me.0 inside.replica inside.thread stamp room (vec_capacity c.note.new.made) call c.args.at made
    c.args.answer held c.draw-stamp.ensures.drawn (c.reply_of-event.ensures.in_range view.plan.config) c.note.ensures.1 in
    let Is : List Stamped → Type 0 =
    λ xs. IsHeld c.draw-stamp.new.seat.me.0 inside.replica inside.thread None (vec_capacity c.note.new.made) xs in
    (c.draw-stamp.ensures.held ∙ c.self.invariant.0, subst Is (sym items) after)

pub returns-clause-later : goal.returns-clause-later
returns-clause-later c =
    let all = later_made c.self.inside.made.items c.self.inside.seat.me.0.stamps c.draw-stamp.result c.self.invariant.1.same c.draw-stamp.ensures.drawn.later in
    subst (λ (p : PenState). All (λ item. item.stamp < c.draw-stamp.result) p.made) c.self.view_is all
