use Rattle.std.proofs.Common.{◌≤◌, ap, sym, subst, arith}
use Rattle.nr_ring.specs.Pass.{Known}
use Rattle.nr_ring.specs.LogHistory.{completed, log_after}
use Rattle.nr_replicas.specs.Replicas.{HasHeard}
use Rattle.nr_ring.specs.declared.ring.tails.Tails.{Tails}
use Rattle.nr_replicas.proofs.Hearing.{heard_on, looked_and_heard, looked_heard}
use Rattle.nr_replicas.proofs.replicas.Replicas.ask.Goals as goal

pub returns-in-Some-read-clause-heard : goal.returns-in-Some-read-clause-heard
returns-in-Some-read-clause-heard g c =
    let From : Known → Type 0 = λ k. HasHeard g.J.LogName.depth g.J.LogName.replicas k.view c.read-read.new.pass.view in
    looked_and_heard c.look-completed.ensures.looked (subst From c.loop.invariant c.in-Some-read.ensures.heard)

pub returns-in-Some-read-clause-read : goal.returns-in-Some-read-clause-read
returns-in-Some-read-clause-read g c =
    let depth = g.J.LogName.depth in
    let replicas = g.J.LogName.replicas in
    let on = heard_on depth replicas c.args.pass.now.view c.look-completed.new.pass.view (looked_heard c.look-completed.ensures.looked) in
    let read = c.in-Some-read.ensures.read in
    let knew : completed (log_after replicas c.args.pass.now.view.seen) ≤ c.look-completed.result.completed =
    omega (arith, on.completed, ap (λ (t : Tails). t.completed) c.look-completed.ensures.tails) in
    record {
      fresh = omega (arith, knew, read.fresh);
      known = read.known;
      answered = read.answered;
    }

pub returns-clause-heard : goal.returns-clause-heard
returns-clause-heard g c =
    let Here : Known → Type 0 = λ k. HasHeard g.J.LogName.depth g.J.LogName.replicas c.args.pass.now.view k.view in
    subst Here (sym c.loop.invariant) (looked_heard c.look-completed.ensures.looked)
