-- Passes that hear of more, one time after another.
use Rattle.std.proofs.Common.{ℕ, List, All, get_or, subst, ◌∙◌}
use Rattle.vs_types.specs.declared.addresses.depth.Depth.{Depth}
use Rattle.nr_ring.specs.Calls.{HasLooked}
use Rattle.nr_ring.specs.Laws.{HasGoneOn}
use Rattle.nr_ring.specs.LogHistory.{log_after}
use Rattle.nr_ring.specs.View.{HasSeenAdvances}
use Rattle.nr_ring.specs.declared.ring.view.View.{View}
use Rattle.nr_ring.proofs.Appends.{begins, no_advances}
use Rattle.nr_ring.proofs.Histories.{beginning_goes_on}
use Rattle.nr_replicas.specs.Replicas.{HasHeard}

pub looked_heard : {depth : Depth} {replicas : ℕ} {a b : View} → HasLooked depth replicas a b → HasHeard depth replicas a b
looked_heard is = record {
  is_history = is.is_history;
  seen = is.seen;
  advances = is.advances;
  mine = is.mine;
  owns = is.owns;
  rights = is.rights;
}

pub heard_twice : {depth : Depth} {replicas : ℕ} {a b c : View} → HasHeard depth replicas a b → HasHeard depth replicas b c → HasHeard depth replicas a c
heard_twice {depth} {replicas} {a} {b} {c} p q = record {
  is_history = q.is_history;
  seen = begins a.seen b.seen c.seen p.seen q.seen;
  advances = λ k d lt.
      let Q : List ℕ → Type 0 = λ l. All (λ replica. HasSeenAdvances replica c.seen b.seen) l in
      no_advances (get_or a.owns k d) a.seen b.seen c.seen (p.advances k d lt) (subst Q p.owns q.advances k d lt);
  mine = q.mine ∙ p.mine;
  owns = q.owns ∙ p.owns;
  rights = q.rights ∙ p.rights;
}

-- a pass looked, and then heard of more
pub looked_and_heard : {depth : Depth} {replicas : ℕ} {a b c : View} → HasLooked depth replicas a b → HasHeard depth replicas b c
    → HasHeard depth replicas a c
looked_and_heard looked heard = heard_twice (looked_heard looked) heard

pub heard_on : (depth : Depth) (replicas : ℕ) (a b : View) → HasHeard depth replicas a b → HasGoneOn (log_after replicas a.seen) (log_after replicas b.seen)
heard_on depth replicas a b is = beginning_goes_on depth replicas b.seen a.seen is.is_history is.seen
