use Rattle.std.proofs.Common.{◌≡◌, slice_index_or, arith, refl, rules}
use Rattle.nr_trace.proofs.LawsOfCalls.{the_some}
use Rattle.nr_core.specs.inside.Parts.{thread_in}
use Rattle.nr_core.proofs.Keeping.{with_other_thread, thread_seen, set_thread}
use Rattle.nr_core.proofs.states.state.Core.set_holds.Goals as goal

pub invariant_of-self : goal.invariant_of-self
invariant_of-self c =
    let x = c.index_mut.result.now in
    let at : x ≡ slice_index_or c.self.inside.threads.items c.args.thread x = search rules in
    let there = the_some _ c.requires in
    let one = thread_seen c.self.inside c.args.thread x there.0 c.self.view_is c.self.invariant there.1 at in
    rw c.from.ensures (with_other_thread c.args.thread x _ c.self.invariant one.within at
    (record { script = one.good.script; stage = one.good.stage }) c.self.invariant.recorded (omega arith))

pub returns-clause-set : goal.returns-clause-set
returns-clause-set c before there =
    let x = c.index_mut.result.now in
    let at : x ≡ slice_index_or c.self.inside.threads.items c.args.thread x = search rules in
    let one = thread_seen c.self.inside c.args.thread x before c.self.view_is c.self.invariant there at in
    let seen : thread_in (record x { holds = c.args.holds }) ≡ record before { holds = c.args.holds } = rw one.is refl in
    set_thread c.self.inside _ _ c.self.view_is c.from.ensures seen
