use Rattle.nr_replicas.proofs.Hearing.{heard_twice, looked_and_heard}
use Rattle.nr_replicas.proofs.Logs.{answered_since}
use Rattle.nr_replicas.proofs.replicas.Replicas.update.Goals as goal

pub returns-in_err-place-clause-heard : goal.returns-in_err-place-clause-heard
returns-in_err-place-clause-heard g c = looked_and_heard c.look-from.ensures.looked c.wait.ensures.heard

pub returns-in-Some-clause-heard : goal.returns-in-Some-clause-heard
returns-in-Some-clause-heard g c = looked_and_heard c.look-from.ensures.looked c.wait.ensures.heard

pub returns-in-Some-clause-answered : goal.returns-in-Some-clause-answered
returns-in-Some-clause-answered g c =
    let own = rw c.in-Some.is at c.in_ok-place.ensures.own in
    answered_since c.look-from.ensures.looked c.look-from.ensures.tails c.entry-entry.ensures.entry c.new-waiting.ensures.call c.new-waiting.ensures.op own

pub returns-in-Some-confirm-clause-heard : goal.returns-in-Some-confirm-clause-heard
returns-in-Some-confirm-clause-heard g c =
    heard_twice (looked_and_heard c.look-from.ensures.looked c.wait.ensures.heard) c.confirm.ensures.heard

pub returns-in-Some-confirm-clause-answered : goal.returns-in-Some-confirm-clause-answered
returns-in-Some-confirm-clause-answered g c =
    answered_since c.look-from.ensures.looked c.look-from.ensures.tails c.entry-entry.ensures.entry c.new-waiting.ensures.call c.new-waiting.ensures.op
    c.in-Some-confirm.ensures.confirmed

pub returns-clause-heard : goal.returns-clause-heard
returns-clause-heard g c = heard_twice (looked_and_heard c.look-from.ensures.looked c.wait.ensures.heard) c.confirm.ensures.heard
