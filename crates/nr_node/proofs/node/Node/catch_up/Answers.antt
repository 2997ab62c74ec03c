use Rattle.std.proofs.Common.{◌≡◌, ◌+◌, ◌-◌, ◌≤◌, ◌++◌, ℕ, List, All, None, take, drop, length, refl, ap, sym, subst, ◌∙◌, arith}
use Rattle.std.proofs.lemmas.Result.{err_from_is_err_and}
use Rattle.vs_types.specs.LogEntry.{IsLogEntry}
use Rattle.vs_types.specs.declared.limits.TheConstants.{LOG_PLACES, RING}
use Rattle.vs_types.specs.declared.log_entry.LogEntry.{LogEntry}
use Rattle.nr_ring.specs.Calls.{HasMoved}
use Rattle.nr_ring.specs.LogHistory.{log_after}
use Rattle.nr_slots.specs.Updates.{Waiting}
use Rattle.nr_node.specs.Calls.{HasCaughtUp, HasStayed, answers_of}
use Rattle.nr_node.specs.Node.{IsNode, NodeState, replica_of}
use Rattle.nr_node.specs.inside.Node.{node_state}
use Rattle.nr_node.specs.inside.Replica.{ReplicaState}
use Rattle.nr_node.proofs.Lists.{slice_from}
use Rattle.nr_node.proofs.Looks.{looked_owner, took_all, took_few}
use Rattle.nr_node.proofs.Nodes.{had_taken, looked_ahead, looked_follows, looked_node}
use Rattle.nr_node.proofs.Takes.{answers_after, applied_from, caught_up, next_entries, stands_after, took_ahead, took_fit, took_follows, took_node}
use Rattle.nr_node.proofs.node.Node.catch_up.Goals as goal

pub invariant_of-self : goal.invariant_of-self
invariant_of-self g c =
    let self = c.self.inside in
    let is = c.self.invariant in
    let looked = c.in_err-take.ensures.moved.0 in (
      looked_node _ _ self.pass c.take.new.pass self.replica self.batch.items self.first looked is.0,
      looked_follows _ _ self.pass c.take.new.pass self.replica self.batch.items self.first looked is.0 is.1,
      looked_ahead _ _ self.pass c.take.new.pass self.replica self.ahead looked is.0.owner is.2,
    )

pub returns-in_err-take-clause-stayed : goal.returns-in_err-take-clause-stayed
returns-in_err-take-clause-stayed g c =
    let p = err_from_is_err_and c.from_residual.result c.from_residual.ensures.1 in
    let self = c.self.inside in
    let looked = c.in_err-take.ensures.moved.0 in
    let Stays : NodeState → Type 0 =
    λ n. HasStayed g.J.LogName.depth g.J.LogName.replicas n (node_state c.take.new.pass self.replica self.batch.items self.first) in
    rw p.1 (subst Stays c.self.view_is (record {
      looked = looked;
      same = refl;
    }))

pub returns-in_err-take-clause-moved : goal.returns-in_err-take-clause-moved
returns-in_err-take-clause-moved g c =
    let p = err_from_is_err_and c.from_residual.result c.from_residual.ensures.1 in
    let Moves : NodeState → Type 0 = λ n. HasMoved n.known.view c.take.new.pass.view in
    rw p.1 (subst Moves c.self.view_is c.in_err-take.ensures.moved.1)

pub returns-in_err-take-clause-ahead : goal.returns-in_err-take-clause-ahead
returns-in_err-take-clause-ahead g c =
    let p = err_from_is_err_and c.from_residual.result c.from_residual.ensures.1 in
    let after = c.take.new.pass.view in
    let moved = c.in_err-take.ensures.moved in
    let owner = looked_owner _ _ c.self.inside.pass.view after moved.0 c.self.invariant.0.owner in
    rw p.1 (omega (arith, moved.2 (replica_of after) owner))

pub slice_bounds-new-count : goal.slice_bounds-new-count
slice_bounds-new-count g c =
    let self = c.self.inside in
    let is = c.self.invariant in
    let few = took_few _ _ self.pass.view c.take.new.pass.view c.take.new.entries.items self.ahead _ c.in_ok-take.ensures.taken is.0.owner is.2
    is.0.written in
    omega (arith, few, ap (λ (l : List LogEntry). length l) c.as_slice.ensures.value)

pub slice_bounds-new-start : goal.slice_bounds-new-start
slice_bounds-new-start g c =
    let self = c.self.inside in
    let is = c.self.invariant in
    let few = took_few _ _ self.pass.view c.take.new.pass.view c.take.new.entries.items self.ahead _ c.in_ok-take.ensures.taken is.0.owner is.2
    is.0.written in
    omega (arith, few, ap (λ (l : List LogEntry). length l) c.as_slice.ensures.value)

pub apply_all-requires-clause-fit : goal.apply_all-requires-clause-fit
apply_all-requires-clause-fit g c =
    let self = c.self.inside in
    let is = c.self.invariant in
    let Fit : List LogEntry → Type 0 = λ l. All (IsLogEntry self.replica.depth) l in
    subst Fit (sym (slice_from self.ahead c.as_slice.result.now c.take.new.entries.items c.as_slice.ensures.value))
    (took_fit _ _ _ self.pass.view c.take.new.pass.view (drop self.ahead c.take.new.entries.items) self.replica.depth
    (took_all _ _ self.pass.view c.take.new.pass.view c.take.new.entries.items self.ahead _ c.in_ok-take.ensures.taken is.0.owner is.2 is.0.written)
    is.1.depth_is)

pub apply_all-requires-clause-room : goal.apply_all-requires-clause-room
apply_all-requires-clause-room g c =
    let self = c.self.inside in
    let is = c.self.invariant in
    let Room : NodeState → Type 0 = λ n. n.applied ≤ n.base + (LOG_PLACES + RING) in
    let room = subst Room (sym c.self.view_is) c.requires.room in
    let had = had_taken _ _ (node_state self.pass self.replica self.batch.items self.first) self.replica is.0 is.1 in
    omega (arith, room, had, c.as_slice.ensures.fits)

pub answer-requires-clause-stand : goal.answer-requires-clause-stand
answer-requires-clause-stand g c =
    let self = c.self.inside in
    let is = c.self.invariant in
    let whole = c.take.new.entries.items in
    let entries = drop self.ahead whole in
    let next = c.apply_all.new.self in
    let applied = c.apply_all.ensures ∙ applied_from self.replica self.ahead c.as_slice.result.now whole c.as_slice.ensures.value in
    let all = took_all _ _ self.pass.view c.take.new.pass.view whole self.ahead _ c.in_ok-take.ensures.taken is.0.owner is.2 is.0.written in
    let base = ap (λ (r : ReplicaState). r.base) applied in
    λ place at. (
      omega (arith, base, is.0.kept, is.0.behind, (is.0.placed place at).above),
      stands_after _ _ self.pass c.take.new.pass self.replica next self.batch.items self.first entries all is.0
          (next_entries _ _ self.pass c.take.new.pass self.replica next self.batch.items self.first entries all is.0 is.1 applied) place at,
    )

pub invariant_of-self-2 : goal.invariant_of-self-2
invariant_of-self-2 g c =
    let self = c.self.inside in
    let is = c.self.invariant in
    let whole = c.take.new.entries.items in
    let entries = drop self.ahead whole in
    let next = c.apply_all.new.self in
    let applied = c.apply_all.ensures ∙ applied_from self.replica self.ahead c.as_slice.result.now whole c.as_slice.ensures.value in
    let all = took_all _ _ self.pass.view c.take.new.pass.view whole self.ahead _ c.in_ok-take.ensures.taken is.0.owner is.2 is.0.written in
    let Is : List Waiting → Type 0 = λ l. IsNode g.J.LogName.depth g.J.LogName.replicas (node_state c.take.new.pass next l None) in (
      subst Is (sym c.keep_unplaced.ensures) (took_node _ _ self.pass c.take.new.pass self.replica next self.batch.items self.first entries all is.0
          applied),
      took_follows _ _ self.pass c.take.new.pass self.replica next self.batch.items c.keep_unplaced.new.batch.items self.first None entries
          all is.0 is.1 applied,
      took_ahead _ _ self.pass c.take.new.pass self.replica next whole entries c.in_ok-take.ensures.taken all applied,
    )

pub returns-clause-caught_up : goal.returns-clause-caught_up
returns-clause-caught_up g c =
    let self = c.self.inside in
    let is = c.self.invariant in
    let whole = c.take.new.entries.items in
    let entries = drop self.ahead whole in
    let next = c.apply_all.new.self in
    let applied = c.apply_all.ensures ∙ applied_from self.replica self.ahead c.as_slice.result.now whole c.as_slice.ensures.value in
    let took = c.in_ok-take.ensures.taken in
    let all = took_all _ _ self.pass.view c.take.new.pass.view whole self.ahead _ took is.0.owner is.2 is.0.written in
    let ByLeft : List Waiting → Type 0 = λ l. HasCaughtUp g.J.LogName.depth g.J.LogName.replicas (node_state self.pass self.replica self.batch.items self.first)
    (length entries) (node_state c.take.new.pass next l None) in
    let ByCount : ℕ → Type 0 = λ n. HasCaughtUp g.J.LogName.depth g.J.LogName.replicas (node_state self.pass self.replica self.batch.items self.first)
    n (node_state c.take.new.pass next c.keep_unplaced.new.batch.items None) in
    let ByOld : NodeState → Type 0 = λ n. HasCaughtUp g.J.LogName.depth g.J.LogName.replicas n
    (length (take (length c.as_slice.result.now - self.ahead) (drop self.ahead c.as_slice.result.now)))
    (node_state c.take.new.pass next c.keep_unplaced.new.batch.items None) in
    let count = ap (λ (l : List LogEntry). length l) (slice_from self.ahead c.as_slice.result.now whole c.as_slice.ensures.value) in
    subst ByOld c.self.view_is (subst ByCount (sym count) (subst ByLeft (sym c.keep_unplaced.ensures)
    (caught_up _ _ self.pass c.take.new.pass self.replica next self.batch.items self.first whole entries took all is.0 applied)))

pub returns-clause-answered : goal.returns-clause-answered
returns-clause-answered g c =
    let self = c.self.inside in
    let is = c.self.invariant in
    let whole = c.take.new.entries.items in
    let entries = drop self.ahead whole in
    let next = c.apply_all.new.self in
    let applied = c.apply_all.ensures ∙ applied_from self.replica self.ahead c.as_slice.result.now whole c.as_slice.ensures.value in
    let later = log_after g.J.LogName.replicas c.take.new.pass.view.seen in
    let all = took_all _ _ self.pass.view c.take.new.pass.view whole self.ahead _ c.in_ok-take.ensures.taken is.0.owner is.2 is.0.written in
    let are = next_entries _ _ self.pass c.take.new.pass self.replica next self.batch.items self.first entries all is.0 is.1 applied in
    let ByOld : NodeState → Type 0 = λ n. c.answer.new.answers.items ≡ answers_of g.J.LogName.depth n.tables later.entries n.first n.batch in
    subst ByOld c.self.view_is (c.answer.ensures
    ∙ answers_after g.J.LogName.depth self.replica next self.batch.items self.first entries later.entries applied are is.1.depth_is)
