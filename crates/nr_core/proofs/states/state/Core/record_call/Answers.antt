use Rattle.std.proofs.Common.{◌≡◌, ◌<◌, ◌+◌, ◌%◌, ◌++◌, [], ◌∷◌, Some, length, drop, slice_index_or, arith, refl, sym, subst, ap, ◌∙◌, rules}
use Rattle.std.proofs.Math.Nat.{mod-lt}
use Rattle.std.proofs.lemmas.List.{length-append}
use Rattle.std.proofs.lemmas.List.Elements.{All-push}
use Rattle.vs_types.specs.Query.{IsQuery}
use Rattle.nr_trace.specs.Recording.{IsEvent}
use Rattle.nr_trace.specs.declared.recordings.event.Event.TheVariants.{Call}
use Rattle.nr_trace.specs.declared.recordings.event.Asked.TheVariants as askeds
use Rattle.nr_trace.specs.declared.formats.version.Version.TheVariants.{V2}
use Rattle.nr_core.specs.State.{home, Thread}
use Rattle.nr_core.specs.declared.states.stage.Stage.TheVariants.{Called}
use Rattle.nr_core.specs.inside.Parts.{thread_in, stage_left}
use Rattle.nr_core.proofs.Keeping.{thread_seen, with_other_thread, set_recorded}
use Rattle.nr_core.proofs.Lists.{drop_next}
use Rattle.nr_core.proofs.states.state.Core.record_call.Goals as goal

pub overflow_add-state : goal.overflow_add-state
overflow_add-state c =
    let x = c.index_mut-state.result.now in
    let at : x ≡ slice_index_or c.self.inside.threads.items c.args.thread x = search rules in
    let one = thread_seen c.self.inside c.args.thread x c.requires.thread c.self.view_is c.self.invariant c.requires.there at in
    let next = drop_next x.script.items x.made c.args.request c.requires.left (sym (ap (λ z. z.script) one.is) ∙ c.requires.next) in
    omega (arith, next.0, x.script.small, x.script.ok)

pub invariant_of-self-2 : goal.invariant_of-self-2
invariant_of-self-2 c =
    let config = c.self.inside.config in
    let x = c.index_mut-state.result.now in
    let events = c.self.inside.events.items in
    let event = Call (c.args.thread % config.replicas) c.args.thread (askeds.Request c.args.request) in
    let at : x ≡ slice_index_or c.self.inside.threads.items c.args.thread x = search rules in
    let one = thread_seen c.self.inside c.args.thread x c.requires.thread c.self.view_is c.self.invariant c.requires.there at in
    let script = sym (ap (λ z. z.script) one.is) ∙ c.requires.next in
    let next = drop_next x.script.items x.made c.args.request c.requires.left script in
    let fits : IsQuery config.depth c.args.request = subst (λ s. IsQuery s.layout.depth c.args.request) (sym c.self.view_is) c.requires.fits in
    let pushed : c.push.new.self.items ≡ events ++ event ∷ [] = search rules in
    let now : length (drop (x.made + 1) x.script.items) ≡ length c.requires.left = ap length next.1 in
    let old : length (drop x.made x.script.items) ≡ length c.requires.left + 1 = ap length script ∙ (omega arith) in
    let none : stage_left x.stage ≡ 0 = ap stage_left (ap (λ z. z.stage) (sym one.is) ∙ c.requires.idle) in
    let known : IsEvent V2 config event = (
      mod-lt c.args.thread (omega (arith, c.replicas.ensures.in_range.some_replica)),
      subst (λ s. c.args.thread < s.layout.threads) (sym c.self.view_is) c.requires.in_range,
      fits,
      tt,
    ) in
    rw (c.from-2.ensures, pushed) (with_other_thread c.args.thread x _ c.self.invariant one.within at (record { script = one.good.script; stage = fits })
    (All-push (IsEvent V2 config) events event c.self.invariant.recorded known) (omega (arith, now, old, none, length-append events (event ∷ []))))

pub returns : goal.returns
returns c =
    let x = c.index_mut-state.result.now in
    let at : x ≡ slice_index_or c.self.inside.threads.items c.args.thread x = search rules in
    let one = thread_seen c.self.inside c.args.thread x c.requires.thread c.self.view_is c.self.invariant c.requires.there at in
    let next = drop_next x.script.items x.made c.args.request c.requires.left (sym (ap (λ z. z.script) one.is) ∙ c.requires.next) in
    let held : x.holds ≡ c.requires.thread.holds = ap (λ z. z.holds) (sym one.is) in
    let number : c.len-call.result ≡ length c.args.self.now.events = rw (← c.self.view_is) (search rules) in
    let after : Thread = record c.requires.thread { script = c.requires.left; stage = Called (length c.args.self.now.events) c.args.request } in
    let seen : thread_in (record x { made = x.made + 1; stage = Called c.len-call.result c.args.request }) ≡ after = rw (next.1, held, number) refl in
    let event = Call (home c.args.self.now c.args.thread) c.args.thread (askeds.Request c.args.request) in
    let pushed : c.push.new.self.items ≡ c.self.inside.events.items ++ event ∷ [] = rw (← c.self.view_is) (search rules) in
    rw (c.requires.there, c.requires.next, c.requires.idle) (ap Some (set_recorded c.self.inside _ after event c.self.view_is c.from-2.ensures seen pushed))
