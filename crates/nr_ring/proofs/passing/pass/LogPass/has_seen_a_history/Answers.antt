use Rattle.std.proofs.Common.{◌≡◌, ◌<◌, ◌≤◌, All, subst}
use Rattle.nr_ring.specs.LogHistory.{IsLogHistory, log_after, tail}
use Rattle.nr_ring.specs.Pass.{Known}
use Rattle.nr_ring.specs.View.{StartsWith}
use Rattle.nr_ring.proofs.OwnTails.{owned_below}
use Rattle.nr_ring.proofs.passing.pass.LogPass.has_seen_a_history.Goals as goal

pub returns-clause-history : goal.returns-clause-history
returns-clause-history g c =
    let Is : Known → Type 0 = λ k. IsLogHistory g.J.LogName.depth g.J.LogName.replicas k.view.seen in subst Is c.self.view_is c.self.invariant.is_history

pub returns-clause-told : goal.returns-clause-told
returns-clause-told g c =
    let Is : Known → Type 0 = λ k. All (StartsWith k.view.seen) k.view.told in subst Is c.self.view_is c.self.invariant.told

pub returns-clause-owns : goal.returns-clause-owns
returns-clause-owns g c =
    let Is : Known → Type 0 = λ k. All (λ r. r < g.J.LogName.replicas) k.view.owns in
    subst Is c.self.view_is (owned_below _ _ _ _ _ _ c.self.inside.inner c.self.invariant)

pub returns-clause-rights : goal.returns-clause-rights
returns-clause-rights g c = let Is : Known → Type 0 = λ k. k.view.rights ≡ 1 in subst Is c.self.view_is c.self.invariant.rights

pub returns-clause-ends : goal.returns-clause-ends
returns-clause-ends g c =
    let Is : Known → Type 0 = λ k. tail (log_after g.J.LogName.replicas k.view.seen) ≤ g.J.LogName.places in subst Is c.self.view_is c.self.invariant.ends
