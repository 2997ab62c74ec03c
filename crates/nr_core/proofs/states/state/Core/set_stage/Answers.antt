use Rattle.std.proofs.Common.{◌≡◌, ◌≤◌, slice_index_or, arith, refl, sym, subst, ap, rules}
use Rattle.nr_core.specs.inside.Parts.{thread_in, stage_left, IsStage}
use Rattle.nr_core.proofs.Keeping.{with_other_thread, thread_seen, set_thread}
use Rattle.nr_core.proofs.states.state.Core.set_stage.Goals as goal

pub invariant_of-self : goal.invariant_of-self
invariant_of-self c =
    let x = c.index_mut.result.now in
    let at : x ≡ slice_index_or c.self.inside.threads.items c.args.thread x = search rules in
    let one = thread_seen c.self.inside c.args.thread x c.requires.thread c.self.view_is c.self.invariant c.requires.there at in
    let left : stage_left c.args.stage ≤ stage_left x.stage = subst (λ z. stage_left c.args.stage ≤ stage_left z.stage) one.is c.requires.left in
    rw c.from.ensures (with_other_thread c.args.thread x _ c.self.invariant one.within at (record {
      script = one.good.script;
      stage = subst (λ d. IsStage d c.args.stage) (sym (ap (λ s. s.layout.depth) c.self.view_is)) c.requires.fits;
    }) c.self.invariant.recorded (omega (arith, left)))

pub returns-clause-set : goal.returns-clause-set
returns-clause-set c before there =
    let x = c.index_mut.result.now in
    let at : x ≡ slice_index_or c.self.inside.threads.items c.args.thread x = search rules in
    let one = thread_seen c.self.inside c.args.thread x before c.self.view_is c.self.invariant there at in
    let seen : thread_in (record x { stage = c.args.stage }) ≡ record before { stage = c.args.stage } = rw one.is refl in
    set_thread c.self.inside _ _ c.self.view_is c.from.ensures seen
