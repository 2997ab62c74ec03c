use Rattle.std.proofs.Common.{Some, rules}
use Rattle.nr_core.specs.inside.Views.{HoldsJust}
use Rattle.nr_core.proofs.states.state.Core.lock_of.Goals as goal

pub returns-then-has_replica : goal.returns-then-has_replica
returns-then-has_replica c =
    let held : HoldsJust c.args.self.now c.args.thread (Some c.in_ok-r.r) = search rules in
    record { thread = held.0; replica = c.if-has_replica.ensures.0; there = held.1; holds = held.2; is = c.if-has_replica.ensures.1 }
