use Rattle.std.proofs.Common.{◌≡◌, ◌+◌, ◌-◌, ◌<◌, ◌≤◌, ℕ, List, All, IfNone, IfSome, drop, length, take, ap, sym, subst, ◌∙◌, refl, arith}
use Rattle.std.proofs.Math.ListN.{length-append}
use Rattle.std.proofs.lemmas.List.{length-drop, length-map}
use Rattle.std.proofs.lemmas.Result.{err_from_is_err_and}
use Rattle.vs_types.specs.LogEntry.{IsLogEntry}
use Rattle.vs_types.specs.declared.addresses.depth.Depth.{Depth}
use Rattle.vs_types.specs.declared.limits.TheConstants.{CALLS, LOG_PLACES}
use Rattle.vs_types.specs.declared.log_entry.LogEntry.{LogEntry}
use Rattle.nr_ring.specs.LogHistory.{log_after}
use Rattle.nr_slots.specs.Updates.{Waiting}
use Rattle.nr_node.specs.Calls.{HasStayed, IsAnsweredIn, IsOwnPlace, LacksUpdate, entries_of, entry_of}
use Rattle.nr_node.specs.Node.{NodeState}
use Rattle.nr_node.specs.inside.Node.{node_state}
use Rattle.nr_node.specs.inside.Replica.{ReplicaState}
use Rattle.nr_node.proofs.Answering.{both_applied}
use Rattle.nr_node.proofs.Lists.{slice_from}
use Rattle.nr_node.proofs.Nodes.{had_taken, looked_ahead, looked_follows, looked_node}
use Rattle.nr_node.proofs.Puts.{batch_fits, put_and_took, put_entries, put_fit, put_left}
use Rattle.nr_node.proofs.node.Node.put_and_catch_up.Goals as goal

pub append_and_take-requires-clause-entries : goal.append_and_take-requires-clause-entries
append_and_take-requires-clause-entries g c =
    let self = c.self.inside in
    let same = ap (λ (n : ℕ). take n c.ask_for.new.asked) c.len.ensures.value ∙ c.ask_for.ensures.entries in
    let Fit : List LogEntry → Type 0 = λ l. All (IsLogEntry g.J.LogName.depth) l in
    let Low : List LogEntry → Type 0 = λ l. All (λ entry. entry.call < CALLS) l in
    subst Fit (sym same)
    (batch_fits g.J.LogName.depth self.batch.items c.self.invariant.0.fit (subst Low c.ask_for.ensures.entries c.ask_for.ensures.in_range))

pub invariant_of-self : goal.invariant_of-self
invariant_of-self g c =
    let self = c.self.inside in
    let is = c.self.invariant in
    let looked = c.in_err-append_and_take.ensures.refused.0 in (
      looked_node _ _ self.pass c.append_and_take.new.pass self.replica self.batch.items self.first looked is.0,
      looked_follows _ _ self.pass c.append_and_take.new.pass self.replica self.batch.items self.first looked is.0 is.1,
      looked_ahead _ _ self.pass c.append_and_take.new.pass self.replica self.ahead looked is.0.owner is.2,
    )

pub returns-in_err-append_and_take-clause-stayed : goal.returns-in_err-append_and_take-clause-stayed
returns-in_err-append_and_take-clause-stayed g c =
    let p = err_from_is_err_and c.from_residual.result c.from_residual.ensures.1 in
    let self = c.self.inside in
    let looked = c.in_err-append_and_take.ensures.refused.0 in
    let Stays : NodeState → Type 0 =
    λ n. HasStayed g.J.LogName.depth g.J.LogName.replicas n (node_state c.append_and_take.new.pass self.replica self.batch.items self.first) in
    rw p.1 (subst Stays c.self.view_is (record {
      looked = looked;
      same = refl;
    }))

pub slice_bounds-new-count : goal.slice_bounds-new-count
slice_bounds-new-count g c =
    let self = c.self.inside in
    let did = put_and_took _ _ self.pass c.append_and_take.new.pass self.replica self.batch.items self.first _ c.ask_for.new.asked _ _ _
    self.ahead c.self.view_is
    c.requires.some c.len.ensures.value c.ask_for.ensures.entries c.in_ok-append_and_take.ensures.done c.self.invariant in
    omega (arith, did.few, ap (λ (l : List LogEntry). length l) c.as_slice.ensures.value)

pub slice_bounds-new-start : goal.slice_bounds-new-start
slice_bounds-new-start g c =
    let self = c.self.inside in
    let did = put_and_took _ _ self.pass c.append_and_take.new.pass self.replica self.batch.items self.first _ c.ask_for.new.asked _ _ _
    self.ahead c.self.view_is
    c.requires.some c.len.ensures.value c.ask_for.ensures.entries c.in_ok-append_and_take.ensures.done c.self.invariant in
    omega (arith, did.few, ap (λ (l : List LogEntry). length l) c.as_slice.ensures.value)

pub apply_all-requires-clause-fit : goal.apply_all-requires-clause-fit
apply_all-requires-clause-fit g c =
    let self = c.self.inside in
    let is = c.self.invariant in
    let did = put_and_took _ _ self.pass c.append_and_take.new.pass self.replica self.batch.items self.first _ c.ask_for.new.asked _ _ _
    self.ahead c.self.view_is
    c.requires.some c.len.ensures.value c.ask_for.ensures.entries c.in_ok-append_and_take.ensures.done c.self.invariant in
    let Fit : List LogEntry → Type 0 = λ l. All (IsLogEntry self.replica.depth) l in
    subst Fit (sym (slice_from self.ahead c.as_slice.result.now _ c.as_slice.ensures.value)) (put_fit _ _ _ _ _ _ _ _ _ did self.replica.depth is.1.depth_is).0

pub apply_all-requires-clause-room : goal.apply_all-requires-clause-room
apply_all-requires-clause-room g c =
    let self = c.self.inside in
    let is = c.self.invariant in
    let Room : NodeState → Type 0 = λ n. n.applied ≤ n.base + LOG_PLACES in
    let room = subst Room (sym c.self.view_is) c.requires.room in
    let had = had_taken _ _ (node_state self.pass self.replica self.batch.items self.first) self.replica is.0 is.1 in
    omega (arith, room, had, c.as_slice.ensures.fits)

pub apply_batch-requires-clause-fit : goal.apply_batch-requires-clause-fit
apply_batch-requires-clause-fit g c =
    let self = c.self.inside in
    let is = c.self.invariant in
    let did = put_and_took _ _ self.pass c.append_and_take.new.pass self.replica self.batch.items self.first _ c.ask_for.new.asked _ _ _
    self.ahead c.self.view_is
    c.requires.some c.len.ensures.value c.ask_for.ensures.entries c.in_ok-append_and_take.ensures.done c.self.invariant in
    (put_fit _ _ _ _ _ _ _ _ _ did c.apply_all.new.self.depth (ap (λ (r : ReplicaState). r.depth) c.apply_all.ensures ∙ is.1.depth_is)).1

pub apply_batch-requires-clause-room : goal.apply_batch-requires-clause-room
apply_batch-requires-clause-room g c =
    let self = c.self.inside in
    let is = c.self.invariant in
    let Room : NodeState → Type 0 = λ n. n.applied ≤ n.base + LOG_PLACES in
    let room = subst Room (sym c.self.view_is) c.requires.room in
    let had = had_taken _ _ (node_state self.pass self.replica self.batch.items self.first) self.replica is.0 is.1 in
    omega (
      arith,
      room,
      had,
      is.0.few,
      c.as_slice.ensures.fits,
      ap (λ (r : ReplicaState). length r.entries) c.apply_all.ensures,
      ap (λ (r : ReplicaState). r.base) c.apply_all.ensures,
      length-append self.replica.entries (take (length c.as_slice.result.now - self.ahead) (drop self.ahead c.as_slice.result.now)),
      ap (λ (l : List LogEntry). length l) (slice_from self.ahead c.as_slice.result.now c.as_slice.result.now refl),
      length-drop self.ahead c.as_slice.result.now,
    )

pub invariant_of-self-2 : goal.invariant_of-self-2
invariant_of-self-2 g c =
    let self = c.self.inside in
    let did = put_and_took _ _ self.pass c.append_and_take.new.pass self.replica self.batch.items self.first _ c.ask_for.new.asked _ _ _
    self.ahead c.self.view_is
    c.requires.some c.len.ensures.value c.ask_for.ensures.entries c.in_ok-append_and_take.ensures.done c.self.invariant in
    let both = both_applied self.replica c.apply_all.new.self c.apply_batch.new.self _ _ _ c.apply_all.ensures
    (slice_from self.ahead c.as_slice.result.now _ c.as_slice.ensures.value)
    c.apply_batch.ensures.applied in
    (put_left _ _ _ _ _ _ _ _ _ did _ both _ _ self.first c.self.view_is c.requires.unplaced c.clear-2.ensures).1

pub returns-clause-caught_up : goal.returns-clause-caught_up
returns-clause-caught_up g c =
    let self = c.self.inside in
    let did = put_and_took _ _ self.pass c.append_and_take.new.pass self.replica self.batch.items self.first _ c.ask_for.new.asked _ _ _
    self.ahead c.self.view_is
    c.requires.some c.len.ensures.value c.ask_for.ensures.entries c.in_ok-append_and_take.ensures.done c.self.invariant in
    let both = both_applied self.replica c.apply_all.new.self c.apply_batch.new.self _ _ _ c.apply_all.ensures
    (slice_from self.ahead c.as_slice.result.now _ c.as_slice.ensures.value)
    c.apply_batch.ensures.applied in
    (put_left _ _ _ _ _ _ _ _ _ did _ both _ _ self.first c.self.view_is c.requires.unplaced c.clear-2.ensures).0

pub returns-clause-own : goal.returns-clause-own
returns-clause-own g c =
    let self = c.self.inside in
    let is = c.self.invariant in
    let depth = g.J.LogName.depth in
    let after = c.append_and_take.new.pass in
    let mid = c.apply_all.new.self in
    let next = c.apply_batch.new.self in
    let later = log_after g.J.LogName.replicas after.view.seen in
    let did = put_and_took _ _ self.pass c.append_and_take.new.pass self.replica self.batch.items self.first _ c.ask_for.new.asked _ _ _
    self.ahead c.self.view_is
    c.requires.some c.len.ensures.value c.ask_for.ensures.entries c.in_ok-append_and_take.ensures.done c.self.invariant in
    let both = both_applied self.replica mid next _ _ _ c.apply_all.ensures
    (slice_from self.ahead c.as_slice.result.now _ c.as_slice.ensures.value) c.apply_batch.ensures.applied in
    let Own : Depth → ℕ → List LogEntry → Type 0 = λ d t l.
    IfSome c.apply_batch.new.own (λ update. IsAnsweredIn d t l c.args.wanted update.0 update.1) in
    let ByDepth : Depth → Type 0 = λ d. Own d mid.tables next.entries in
    let ByTables : ℕ → Type 0 = λ t. Own depth t next.entries in
    let ByEntries : List LogEntry → Type 0 = λ l. Own depth c.args.self.now.tables l in
    subst ByEntries (put_entries _ _ _ _ _ _ _ _ _ did next both)
    (subst ByTables (ap (λ (r : ReplicaState). r.tables) c.apply_all.ensures ∙ ap (λ (n : NodeState). n.tables) c.self.view_is)
    (subst ByDepth (ap (λ (r : ReplicaState). r.depth) c.apply_all.ensures ∙ is.1.depth_is) c.apply_batch.ensures.own))

pub returns-clause-given : goal.returns-clause-given
returns-clause-given g c =
    let Given : NodeState → Type 0 = λ n. IfNone c.apply_batch.new.own (LacksUpdate c.args.thread c.args.wanted n.batch) in
    subst Given c.self.view_is c.apply_batch.ensures.given

pub returns-clause-placed : goal.returns-clause-placed
returns-clause-placed g c =
    let self = c.self.inside in
    let after = c.append_and_take.new.pass in
    let mid = c.apply_all.new.self in
    let next = c.apply_batch.new.self in
    let later = log_after g.J.LogName.replicas after.view.seen in
    let batch = self.batch.items in
    let did = put_and_took _ _ self.pass c.append_and_take.new.pass self.replica self.batch.items self.first _ c.ask_for.new.asked _ _ _
    self.ahead c.self.view_is
    c.requires.some c.len.ensures.value c.ask_for.ensures.entries c.in_ok-append_and_take.ensures.done c.self.invariant in
    let both = both_applied self.replica mid next _ _ _ c.apply_all.ensures
    (slice_from self.ahead c.as_slice.result.now _ c.as_slice.ensures.value) c.apply_batch.ensures.applied in
    let first : length mid.entries ≡ length later.entries - length batch = omega (
      arith,
      ap (λ (l : List LogEntry). length l) (put_entries _ _ _ _ _ _ _ _ _ did next both),
      ap (λ (r : ReplicaState). length r.entries) c.apply_batch.ensures.applied,
      length-append mid.entries (entries_of batch),
      length-map batch entry_of,
    ) in
    let By : ℕ × List Waiting → Type 0 = λ z. IfSome c.apply_batch.new.own (λ update. IsOwnPlace c.args.thread c.args.wanted z.1 z.0 update.0) in
    let At : ℕ → Type 0 = λ n. By (n, batch) in
    let Held : NodeState → Type 0 = λ n. By (length later.entries - length n.batch, n.batch) in
    subst Held c.self.view_is (subst At first c.apply_batch.ensures.placed)
