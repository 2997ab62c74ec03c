use Rattle.std.proofs.Common.{◌≡◌, [], map, replicate, refl, rules}
use Rattle.nr_core.specs.State.{new_replica}
use Rattle.nr_core.specs.inside.Parts.{replica_in, thread_of}
use Rattle.nr_core.proofs.Starting.{parts_good, threads_seen}
use Rattle.nr_core.proofs.states.state.Core.new.Goals as goal

pub invariant_of-result : goal.invariant_of-result
invariant_of-result c =
    let threads : c.in_ok-threads.threads.items ≡ map thread_of c.args.scripts.items = search rules in
    let events : c.new.result.items ≡ [] = search rules in
    let log : c.new-2.result.items ≡ [] = search rules in
    let seen : map replica_in c.in_ok-replicas.replicas.items ≡ replicate c.args.config.replicas new_replica = search rules in
    rw (threads, events, log) (parts_good c.args.config c.args.scripts.items c.in_ok-replicas.replicas.items c.requires seen (search rules))

pub returns : goal.returns
returns c =
    let threads : c.in_ok-threads.threads.items ≡ map thread_of c.args.scripts.items = search rules in
    let events : c.new.result.items ≡ [] = search rules in
    let log : c.new-2.result.items ≡ [] = search rules in
    let seen : map replica_in c.in_ok-replicas.replicas.items ≡ replicate c.args.config.replicas new_replica = search rules in
    rw (threads, events, log, seen, threads_seen c.args.scripts.items) refl
