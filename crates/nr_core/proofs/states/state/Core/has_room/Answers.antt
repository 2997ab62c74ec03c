use Rattle.std.proofs.Common.{◌≡◌, ◌+◌, true, nat_le, length, sym, ◌∙◌, arith, rules}
use Rattle.std.proofs.lemmas.Bool.Decides.{nat_tests}
use Rattle.std.proofs.lemmas.List.Folds.{list_all-map}
use Rattle.std.specs.List.{list_all}
use Rattle.vs_types.specs.declared.limits.TheConstants.{LOG_PLACES}
use Rattle.nr_core.specs.declared.states.parts.ReplicaState.{ReplicaState}
use Rattle.nr_core.specs.State.{Replica}
use Rattle.nr_core.specs.inside.Parts.{replica_in}
use Rattle.nr_core.proofs.states.state.Core.has_room.Goals as goal

pub returns-then-n-tail : goal.returns-then-n-tail
returns-then-n-tail c =
    let replicas = c.self.inside.replicas.items in
    let end = length c.self.inside.log.items + c.args.n in
    let few = c.self.invariant.few_entries in
    let tail : c.len-tail.result ≡ length c.self.inside.log.items = search rules in
    let asked = c.if-n-tail.true in
    let room : nat_le end LOG_PLACES ≡ true = grind (arith, nat_tests, few, tail, asked) in
    let kept : c.keep_up.result ≡ list_all (λ (r : ReplicaState). nat_le end (r.marks.local + 16)) replicas = search rules in
    rw (← c.self.view_is, room) (kept ∙ sym (list_all-map (λ (r : Replica). nat_le end (r.local + 16)) replica_in replicas))
