use Rattle.std.proofs.Common.{◌≡◌, slice_index_or, sym, subst, ap, ◌∙◌, rules}
use Rattle.nr_core.specs.Steps as steps
use Rattle.nr_core.specs.inside.Parts.{replica_in, IsReplica}
use Rattle.nr_core.proofs.Keeping.{with_other_replica, replica_seen, set_replica}
use Rattle.nr_core.proofs.states.state.Core.apply_entry.Goals as goal

pub invariant_of-self : goal.invariant_of-self
invariant_of-self c =
    let x = c.index_mut-stored.result.now in
    let at : x ≡ slice_index_or c.self.inside.replicas.items c.args.replica x = search rules in
    let one = replica_seen c.self.inside c.args.replica x c.requires.replica c.self.view_is c.self.invariant c.requires.there at in
    with_other_replica _ _ c.self.invariant (c.apply_to.ensures.each c.self.inside.config one.good)

pub returns : goal.returns
returns c before there =
    let x = c.index_mut-stored.result.now in
    let at : x ≡ slice_index_or c.self.inside.replicas.items c.args.replica x = search rules in
    let one = replica_seen c.self.inside c.args.replica x before c.self.view_is c.self.invariant there at in
    let good = subst (λ s. IsReplica s.layout x) c.self.view_is one.good in
    let seen : replica_in c.apply_to.new.stored ≡ steps.with_entry c.args.self.now before c.args.entry =
    c.apply_to.ensures.seen c.args.self.now good ∙ ap (λ r. steps.with_entry c.args.self.now r c.args.entry) (sym one.is) in
    set_replica c.self.inside _ _ c.self.view_is c.from.ensures seen
