use Rattle.std.proofs.Common.{◌≡◌, slice_index_or, refl, rules}
use Rattle.nr_core.specs.inside.Parts.{replica_in, with_marks}
use Rattle.nr_core.proofs.Keeping.{replica_seen, set_replica}
use Rattle.nr_core.proofs.states.state.Core.set_marks.Goals as goal

pub returns : goal.returns
returns c before there =
    let x = c.index_mut.result.now in
    let at : x ≡ slice_index_or c.self.inside.replicas.items c.args.replica x = search rules in
    let one = replica_seen c.self.inside c.args.replica x before c.self.view_is c.self.invariant there at in
    let seen : replica_in (record x { marks = c.args.marks }) ≡ with_marks before c.args.marks = rw one.is refl in
    set_replica c.self.inside _ _ c.self.view_is c.from.ensures seen
