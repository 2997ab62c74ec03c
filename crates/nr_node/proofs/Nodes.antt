-- What a node is as its batch, what it keeps, and what its pass has seen change.
use Rattle.std.proofs.Common.{◌≡◌, ℕ, ◌+◌, ◌≤◌, List, [], ◌∷◌, ◌++◌, All, Option, Some, length, take, get_or, ap, sym, subst}
use Rattle.std.proofs.Common.{◌∙◌, arith}
use Rattle.std.specs.Prelude.{slice_get}
use Rattle.std.proofs.Math.ListN.{length-append}
use Rattle.std.proofs.lemmas.List.{length-take-le, take-append-le}
use Rattle.std.proofs.lemmas.Option.{slice_get_within, slice_get-get_or}
use Rattle.vs_types.specs.Operation.{IsAction}
use Rattle.vs_types.specs.declared.addresses.depth.Depth.{Depth}
use Rattle.vs_types.specs.declared.log_entry.LogEntry.{LogEntry}
use Rattle.vs_types.proofs.Lists.{get_left}
use Rattle.nr_ring.specs.Calls.{HasLooked}
use Rattle.nr_ring.specs.LogHistory.{log_after}
use Rattle.nr_ring.specs.Pass.{Known}
use Rattle.vs_types.specs.declared.limits.TheConstants.{RING}
use Rattle.nr_slots.specs.Updates.{Waiting}
use Rattle.nr_node.specs.Calls.{entry_of}
use Rattle.nr_node.specs.Node.{IsNode, NodeState, StandFrom, log_of, replica_of, taken_by}
use Rattle.nr_node.specs.inside.Node.{Follows, IsAhead, node_state}
use Rattle.nr_node.specs.inside.Replica.{ReplicaState}
use Rattle.nr_node.proofs.Looks.{looked_on, looked_owner, looked_taken}

-- ---- lists that go on

pub slice_more : {X : Type 0} (xs ys : List X) (i : ℕ) (x : X) → slice_get xs i ≡ Some x → slice_get (xs ++ ys) i ≡ Some x
slice_more xs ys i x e = get_left xs ys i (slice_get_within xs i x e) ∙ e

pub stand_still : (entries more : List LogEntry) (place : ℕ) (batch : List Waiting) → StandFrom entries place batch → StandFrom (entries ++ more) place batch
stand_still entries more place batch stand i waiting e = slice_more entries more (place + i) (entry_of waiting) (stand i waiting e)

-- a batch that is among entries ends among them
pub ends_within : (entries : List LogEntry) (place : ℕ) (batch : List Waiting) → 1 ≤ length batch → StandFrom entries place batch
    → place + length batch ≤ length entries
ends_within entries place (w ∷ ws) some stand =
    let last = get_or (w ∷ ws) (length ws) w in
    let at = slice_get-get_or (w ∷ ws) (length ws) w (omega arith) in
    let lt = slice_get_within entries (place + length ws) (entry_of last) (stand (length ws) last at) in
    omega arith
ends_within entries place [] some stand = absurd (omega arith)

-- the first entries are as they were
pub take_still : (entries later more : List LogEntry) (n : ℕ) → later ≡ entries ++ more → n ≤ length entries → take n later ≡ take n entries
take_still entries later more n on le = ap (take n) on ∙ take-append-le n entries more le

-- ---- a batch

-- a node that holds nothing holds these calls instead
pub holding_node : (depth : Depth) (replicas : ℕ) (known : Known) (replica : ReplicaState) (before batch : List Waiting) (first : Option ℕ)
    → before ≡ [] → length batch ≤ RING → All (λ waiting. IsAction depth waiting.op) batch
    → IsNode depth replicas (node_state known replica before first) → IsNode depth replicas (node_state known replica batch first)
holding_node depth replicas known replica before batch first none few fit is = record {
  owner = is.owner;
  behind = is.behind;
  written = is.written;
  kept = is.kept;
  fit = fit;
  few = few;
  placed = λ place at.
      let some = (is.placed place at).some in
      absurd (omega (arith, some, ap (λ (l : List Waiting). length l) none));
}

pub holding_follows : (depth : Depth) (replicas : ℕ) (known : Known) (replica : ReplicaState) (before batch : List Waiting) (first : Option ℕ)
    → Follows depth replicas (node_state known replica before first) replica → Follows depth replicas (node_state known replica batch first) replica
holding_follows depth replicas known replica before batch first is = record { depth_is = is.depth_is; entries = is.entries }

-- ---- forgetting

pub forgot_node : (depth : Depth) (replicas : ℕ) (known : Known) (replica next : ReplicaState) (batch : List Waiting) (first : Option ℕ) (base : ℕ)
    → next ≡ record replica { base = base } → base ≤ taken_by replicas known.view → IsNode depth replicas (node_state known replica batch first)
    → IsNode depth replicas (node_state known next batch first)
forgot_node depth replicas known replica next batch first base same low is =
    let many : length next.entries ≡ length replica.entries = ap (λ (r : ReplicaState). length r.entries) same in
    record {
      owner = is.owner;
      behind = omega (arith, is.behind, many);
      written = omega (arith, is.written, many);
      kept = omega (arith, low, ap (λ (r : ReplicaState). r.base) same);
      fit = is.fit;
      few = is.few;
      placed = λ place at.
          let was = is.placed place at in
          record { some = was.some; above = omega (arith, was.above, many); stand = was.stand };
    }

pub forgot_follows : (depth : Depth) (replicas : ℕ) (known : Known) (replica next : ReplicaState) (batch : List Waiting) (first : Option ℕ) (base : ℕ)
    → next ≡ record replica { base = base } → Follows depth replicas (node_state known replica batch first) replica
    → Follows depth replicas (node_state known next batch first) next
forgot_follows depth replicas known replica next batch first base same is = record {
  depth_is = ap (λ (r : ReplicaState). r.depth) same ∙ is.depth_is;
  entries = ap (λ (r : ReplicaState). r.entries) same
      ∙ is.entries
      ∙ ap (λ (n : ℕ). take n (log_after replicas known.view.seen).entries) (sym (ap (λ (r : ReplicaState). length r.entries) same));
}

-- ---- a look

pub looked_node : (depth : Depth) (replicas : ℕ) (known after : Known) (replica : ReplicaState) (batch : List Waiting) (first : Option ℕ)
    → HasLooked depth replicas known.view after.view
    → IsNode depth replicas (node_state known replica batch first) → IsNode depth replicas (node_state after replica batch first)
looked_node depth replicas known after replica batch first p is =
    let on = looked_on depth replicas known.view after.view p in
    let same = looked_taken depth replicas known.view after.view p is.owner in
    let log = log_after replicas known.view.seen in
    record {
      owner = looked_owner depth replicas known.view after.view p is.owner;
      behind = omega (arith, is.behind, same);
      written = omega (arith, is.written, ap (λ (l : List LogEntry). length l) on.entries.1, length-append log.entries on.entries.0);
      kept = omega (arith, is.kept, same);
      fit = is.fit;
      few = is.few;
      placed = λ place at.
          let was = is.placed place at in
          record {
            some = was.some;
            above = was.above;
            stand = subst (λ l. StandFrom l place batch) (sym on.entries.1) (stand_still log.entries on.entries.0 place batch was.stand);
          };
    }

pub looked_follows : (depth : Depth) (replicas : ℕ) (known after : Known) (replica : ReplicaState) (batch : List Waiting) (first : Option ℕ)
    → HasLooked depth replicas known.view after.view → IsNode depth replicas (node_state known replica batch first)
    → Follows depth replicas (node_state known replica batch first) replica → Follows depth replicas (node_state after replica batch first) replica
looked_follows depth replicas known after replica batch first p is follows =
    let on = looked_on depth replicas known.view after.view p in
    let log = log_after replicas known.view.seen in
    let later = log_after replicas after.view.seen in
    record {
      depth_is = follows.depth_is;
      entries = follows.entries ∙ sym (take_still log.entries later.entries on.entries.0 (length replica.entries) on.entries.1 is.written);
    }

pub looked_ahead : (depth : Depth) (replicas : ℕ) (known after : Known) (replica : ReplicaState) (ahead : ℕ)
    → HasLooked depth replicas known.view after.view → known.view.owns ≡ replica_of known.view ∷ [] → IsAhead replicas known.view replica ahead
    → IsAhead replicas after.view replica ahead
looked_ahead depth replicas known after replica ahead p owner is = omega (arith, is, looked_taken depth replicas known.view after.view p owner)

-- it had as many entries as it had applied
pub had_taken : (depth : Depth) (replicas : ℕ) (node : NodeState) (replica : ReplicaState) → IsNode depth replicas node → Follows depth replicas node replica
    → length replica.entries ≡ node.applied
had_taken depth replicas node replica is follows =
    ap (λ (l : List LogEntry). length l) follows.entries ∙ length-take-le node.applied (log_of replicas node).entries is.written
