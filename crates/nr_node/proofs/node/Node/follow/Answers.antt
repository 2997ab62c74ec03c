use Rattle.std.proofs.Common.{◌≡◌, ◌+◌, ◌≤◌, ◌++◌, ℕ, List, [], ◌∷◌, All, Option, Some, drop, length, refl, ap, sym, subst, ◌∙◌, arith}
use Rattle.vs_types.specs.LogEntry.{IsLogEntry}
use Rattle.vs_types.specs.declared.limits.TheConstants.{LOG_PLACES, RING}
use Rattle.vs_types.specs.declared.log_entry.LogEntry.{LogEntry}
use Rattle.nr_slots.specs.Updates.{Waiting}
use Rattle.nr_node.specs.Calls.{HasFollowed}
use Rattle.nr_node.specs.Node.{IsPlaced, NodeState, held_of, log_of}
use Rattle.nr_node.specs.declared.held.Held.TheVariants.{Placed}
use Rattle.nr_node.specs.inside.Node.{node_state}
use Rattle.nr_node.specs.inside.Replica.{ReplicaState}
use Rattle.nr_node.proofs.Lists.{slice_from}
use Rattle.nr_node.proofs.Looks.{peeked_all, peeked_few}
use Rattle.nr_node.proofs.Takes.{followed, followed_node, peeked_ahead, took_fit, took_follows}
use Rattle.nr_node.proofs.node.Node.follow.Goals as goal

-- a batch that a node holds has no place
no_place : (batch : List Waiting) (first : Option ℕ) (place : ℕ) → 1 ≤ length batch → first ≡ Some place → held_of batch first ≡ Placed place (length batch)
no_place (w ∷ ws) first place some at = ap (λ (f : Option ℕ). held_of (w ∷ ws) f) at
no_place [] first place some at = absurd (omega arith)

pub slice_bounds-new-count : goal.slice_bounds-new-count
slice_bounds-new-count g c =
    let self = c.self.inside in
    let is = c.self.invariant in
    let few = peeked_few _ _ self.pass.view c.peek.new.pass.view c.peek.new.entries.items self.ahead _ c.peek.ensures.looked is.0.owner
    c.peek.ensures.fetched is.2 is.0.written in
    omega (arith, few, ap (λ (l : List LogEntry). length l) c.as_slice.ensures.value)

pub slice_bounds-new-start : goal.slice_bounds-new-start
slice_bounds-new-start g c =
    let self = c.self.inside in
    let is = c.self.invariant in
    let few = peeked_few _ _ self.pass.view c.peek.new.pass.view c.peek.new.entries.items self.ahead _ c.peek.ensures.looked is.0.owner
    c.peek.ensures.fetched is.2 is.0.written in
    omega (arith, few, ap (λ (l : List LogEntry). length l) c.as_slice.ensures.value)

pub apply_all-requires-clause-fit : goal.apply_all-requires-clause-fit
apply_all-requires-clause-fit g c =
    let self = c.self.inside in
    let is = c.self.invariant in
    let Fit : List LogEntry → Type 0 = λ l. All (IsLogEntry self.replica.depth) l in
    subst Fit (sym (slice_from self.ahead c.as_slice.result.now c.peek.new.entries.items c.as_slice.ensures.value))
    (took_fit _ _ _ self.pass.view c.peek.new.pass.view (drop self.ahead c.peek.new.entries.items) self.replica.depth
    (peeked_all _ _ self.pass.view c.peek.new.pass.view c.peek.new.entries.items self.ahead _ c.peek.ensures.looked is.0.owner c.peek.ensures.fetched is.2
    is.0.written) is.1.depth_is)

pub apply_all-requires-clause-room : goal.apply_all-requires-clause-room
apply_all-requires-clause-room g c =
    let self = c.self.inside in
    let is = c.self.invariant in
    let Room : NodeState → Type 0 = λ n. n.applied ≤ n.base + (LOG_PLACES + RING) in
    let room = subst Room (sym c.self.view_is) c.requires.room in
    omega (arith, room, c.as_slice.ensures.fits)

pub invariant_of-self : goal.invariant_of-self
invariant_of-self g c =
    let self = c.self.inside in
    let is = c.self.invariant in
    let whole = c.peek.new.entries.items in
    let next = c.apply_all.new.self in
    let With : List LogEntry → ReplicaState = λ l. record self.replica { entries = self.replica.entries ++ l } in
    let applied = c.apply_all.ensures ∙ ap With (slice_from self.ahead c.as_slice.result.now whole c.as_slice.ensures.value) in
    let all = peeked_all _ _ self.pass.view c.peek.new.pass.view whole self.ahead _ c.peek.ensures.looked is.0.owner c.peek.ensures.fetched is.2 is.0.written in
    let Unplaced : NodeState → Type 0 = λ n. (place count : ℕ) → held_of n.batch n.first ≡ Placed place count → ⊥ in
    let unplaced = subst Unplaced (sym c.self.view_is) c.requires.unplaced in (
      followed_node _ _ self.pass c.peek.new.pass self.replica next self.batch.items self.first (drop self.ahead whole)
          (λ place at. unplaced place (length self.batch.items) (no_place self.batch.items self.first place (is.0.placed place at).some at)) all is.0 applied,
      took_follows _ _ self.pass c.peek.new.pass self.replica next self.batch.items self.batch.items self.first self.first (drop self.ahead whole) all
          is.0 is.1 applied,
      omega (
        arith,
        peeked_ahead _ _ self.pass c.peek.new.pass self.replica next self.ahead whole c.peek.ensures.looked is.0.owner is.2
            (peeked_few _ _ self.pass.view c.peek.new.pass.view whole self.ahead _ c.peek.ensures.looked is.0.owner c.peek.ensures.fetched is.2 is.0.written)
            applied,
        c.len-self-inside.ensures.value,
      ),
    )

pub returns-clause-followed : goal.returns-clause-followed
returns-clause-followed g c =
    let self = c.self.inside in
    let is = c.self.invariant in
    let whole = c.peek.new.entries.items in
    let next = c.apply_all.new.self in
    let With : List LogEntry → ReplicaState = λ l. record self.replica { entries = self.replica.entries ++ l } in
    let applied = c.apply_all.ensures ∙ ap With (slice_from self.ahead c.as_slice.result.now whole c.as_slice.ensures.value) in
    let all = peeked_all _ _ self.pass.view c.peek.new.pass.view whole self.ahead _ c.peek.ensures.looked is.0.owner c.peek.ensures.fetched is.2 is.0.written in
    let Followed : NodeState → Type 0 = λ n. HasFollowed g.J.LogName.depth g.J.LogName.replicas n
    (node_state c.peek.new.pass next self.batch.items self.first) in
    subst Followed c.self.view_is
    (followed _ _ self.pass c.peek.new.pass self.replica next self.batch.items self.first (drop self.ahead whole) c.peek.ensures.looked all applied)
