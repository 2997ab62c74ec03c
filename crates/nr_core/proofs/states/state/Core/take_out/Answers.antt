use Rattle.std.proofs.Common.{◌≡◌, slice_index_or, sym, ap, ◌∙◌, rules}
use Rattle.nr_trace.proofs.LawsOfCalls.{the_some}
use Rattle.nr_core.specs.Steps as steps
use Rattle.nr_core.specs.inside.Parts.{replica_in}
use Rattle.nr_core.proofs.Keeping.{with_other_replica, replica_seen, set_replica}
use Rattle.nr_core.proofs.states.state.Core.take_out.Goals as goal

pub invariant_of-self : goal.invariant_of-self
invariant_of-self c =
    let x = c.index_mut-stored.result.now in
    let at : x ≡ slice_index_or c.self.inside.replicas.items c.args.replica x = search rules in
    let there = the_some _ c.requires in
    let one = replica_seen c.self.inside c.args.replica x there.0 c.self.view_is c.self.invariant there.1 at in
    with_other_replica _ _ c.self.invariant (c.take_from.ensures.each c.self.inside.config one.good)

pub returns-clause-set : goal.returns-clause-set
returns-clause-set c before there =
    let x = c.index_mut-stored.result.now in
    let at : x ≡ slice_index_or c.self.inside.replicas.items c.args.replica x = search rules in
    let one = replica_seen c.self.inside c.args.replica x before c.self.view_is c.self.invariant there at in
    let seen : replica_in c.take_from.new.stored ≡ steps.without c.args.thread before =
    c.take_from.ensures.seen ∙ ap (λ r. steps.without c.args.thread r) (sym one.is) in
    set_replica c.self.inside _ _ c.self.view_is c.from.ensures seen
