use Rattle.std.proofs.Common.{◌<◌, ◌≤◌, List, All, length, refl, sym, subst, ◌∙◌, arith}
use Rattle.std.proofs.lemmas.Result.{err_from_is_err_and}
use Rattle.vs_types.specs.LogEntry.{IsLogEntry}
use Rattle.vs_types.specs.declared.limits.TheConstants.{CALLS}
use Rattle.vs_types.specs.declared.log_entry.LogEntry.{LogEntry}
use Rattle.nr_ring.specs.Entries.{HasAppended}
use Rattle.nr_node.specs.Calls.{HasStayed}
use Rattle.nr_node.specs.Node.{NodeState}
use Rattle.nr_node.specs.inside.Node.{node_state}
use Rattle.nr_node.proofs.Nodes.{looked_ahead, looked_follows, looked_node}
use Rattle.nr_node.proofs.Puts.{appended_node, batch_fits}
use Rattle.nr_node.proofs.node.Node.put_batch.Goals as goal

pub append-requires-clause-entries : goal.append-requires-clause-entries
append-requires-clause-entries g c =
    let self = c.self.inside in
    let asked = c.entries_of-entries.ensures in
    let Fit : List LogEntry → Type 0 = λ l. All (IsLogEntry g.J.LogName.depth) l in
    let Low : List LogEntry → Type 0 = λ l. All (λ entry. entry.call < CALLS) l in
    subst Fit (sym (c.as_slice.ensures.value ∙ asked.entries))
    (batch_fits g.J.LogName.depth self.batch.items c.self.invariant.0.fit (subst Low asked.entries asked.in_range))

pub invariant_of-self : goal.invariant_of-self
invariant_of-self g c =
    let self = c.self.inside in
    let is = c.self.invariant in
    let looked = c.in_err-first.ensures.refused.0 in (
      looked_node _ _ self.pass c.append.new.pass self.replica self.batch.items self.first looked is.0,
      looked_follows _ _ self.pass c.append.new.pass self.replica self.batch.items self.first looked is.0 is.1,
      looked_ahead _ _ self.pass c.append.new.pass self.replica self.ahead looked is.0.owner is.2,
    )

pub returns-in_err-first-clause-looked : goal.returns-in_err-first-clause-looked
returns-in_err-first-clause-looked g c =
    let p = err_from_is_err_and c.from_residual.result c.from_residual.ensures.1 in
    let self = c.self.inside in
    let looked = c.in_err-first.ensures.refused.0 in
    let Stays : NodeState → Type 0 =
    λ n. HasStayed g.J.LogName.depth g.J.LogName.replicas n (node_state c.append.new.pass self.replica self.batch.items self.first) in
    rw p.1 (subst Stays c.self.view_is (record {
      looked = looked;
      same = refl;
    }))

pub invariant_of-self-2 : goal.invariant_of-self-2
invariant_of-self-2 g c =
    let self = c.self.inside in
    let is = c.self.invariant in
    let Appends : List LogEntry → Type 0 = λ l.
    HasAppended g.J.LogName.depth g.J.LogName.replicas self.pass.view l c.in_ok-first.first c.append.new.pass.view in
    let Some : NodeState → Type 0 = λ n. 1 ≤ length n.batch in
    let put = appended_node _ _ self.pass c.append.new.pass self.replica self.batch.items self.first c.in_ok-first.first
    (subst Appends (c.as_slice.ensures.value ∙ c.entries_of-entries.ensures.entries) c.in_ok-first.ensures.appended)
    (subst Some (sym c.self.view_is) c.requires.some) is.0 is.1 in
    (put.0, put.1, omega (arith, is.2, put.2))
