use Rattle.std.proofs.Common.{◌≡◌, ◌++◌, [], ◌∷◌, Some, slice_index_or, arith, refl, subst, ap, rules}
use Rattle.std.proofs.lemmas.List.{length-append}
use Rattle.std.proofs.lemmas.List.Elements.{All-push}
use Rattle.nr_trace.specs.Recording.{IsEvent}
use Rattle.nr_trace.specs.declared.formats.version.Version.TheVariants.{V2}
use Rattle.nr_trace.specs.declared.recordings.event.Event.TheVariants.{Reply}
use Rattle.nr_core.specs.declared.states.stage.Stage.TheVariants.{Idle}
use Rattle.nr_core.specs.inside.Parts.{thread_in, stage_left}
use Rattle.nr_core.proofs.Keeping.{thread_seen, with_other_thread, set_recorded}
use Rattle.nr_core.proofs.states.state.Core.record_reply.Goals as goal

pub invariant_of-self-2 : goal.invariant_of-self-2
invariant_of-self-2 c =
    let x = c.index_mut.result.now in
    let events = c.self.inside.events.items in
    let event = c.reply-event.result in
    let at : x ≡ slice_index_or c.self.inside.threads.items c.args.thread x = search rules in
    let one = thread_seen c.self.inside c.args.thread x c.requires.0 c.self.view_is c.self.invariant c.requires.1 at in
    let left : stage_left x.stage ≡ 1 = subst (λ z. stage_left z.stage ≡ 1) one.is c.requires.2 in
    let pushed : c.push.new.self.items ≡ events ++ event ∷ [] = search rules in
    rw (c.from.ensures, pushed) (with_other_thread c.args.thread x _ c.self.invariant one.within at (record { script = one.good.script; stage = tt })
    (All-push (IsEvent V2 c.self.inside.config) events event c.self.invariant.recorded (c.reply-event.ensures.in_range c.self.inside.config))
    (omega (arith, left, length-append events (event ∷ []))))

pub returns : goal.returns
returns c before there =
    let x = c.index_mut.result.now in
    let at : x ≡ slice_index_or c.self.inside.threads.items c.args.thread x = search rules in
    let one = thread_seen c.self.inside c.args.thread x before c.self.view_is c.self.invariant there at in
    let seen : thread_in (record x { stage = Idle }) ≡ record before { stage = Idle } = rw one.is refl in
    let pushed : c.push.new.self.items ≡ c.self.inside.events.items ++ Reply c.args.answered.call c.args.answered.at c.args.answered.answer ∷ [] =
    search rules in
    ap Some (set_recorded c.self.inside _ _ _ c.self.view_is c.from.ensures seen pushed)
