use Rattle.std.proofs.Common.{◌≡◌, ◌++◌, [], ◌∷◌, refl, rules}
use Rattle.std.proofs.lemmas.List.{map-append, replicate_more}
use Rattle.std.proofs.lemmas.List.Elements.{All-push}
use Rattle.nr_core.specs.State.{new_replica}
use Rattle.nr_core.specs.inside.Parts.{replica_in, IsReplica}
use Rattle.nr_core.proofs.states.start.new_replicas.Goals as goal

pub loop-replica-preserved : goal.loop-replica-preserved
loop-replica-preserved c =
    let xs = c.loop-replica.replicas.items in
    let y = c.in_ok-new_replica.field-0 in
    let items : c.push.new.self.items ≡ xs ++ y ∷ [] = search rules in
    let seen : replica_in y ≡ new_replica = search rules in
    let good : IsReplica c.args.config y = search rules in
    rw (items, map-append replica_in xs (y ∷ []), seen, c.loop-replica.invariant.0, replicate_more c.loop-replica.replica new_replica)
    (refl, All-push (IsReplica c.args.config) xs y c.loop-replica.invariant.1 good)
