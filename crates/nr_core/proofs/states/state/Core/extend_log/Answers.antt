use Rattle.std.proofs.Common.{◌≡◌, ◌≤◌, ◌+◌, ◌++◌, length, map, slice_index_or, refl, sym, subst, rules}
use Rattle.std.specs.Prelude.{All}
use Rattle.std.proofs.lemmas.List.{length-map}
use Rattle.std.proofs.lemmas.List.Elements.{All-map}
use Rattle.vs_types.specs.Operation.{IsAction}
use Rattle.vs_types.specs.declared.limits.TheConstants.{LOG_PLACES}
use Rattle.vs_types.specs.declared.log_entry.LogEntry.{LogEntry}
use Rattle.nr_trace.proofs.LawsOfCalls.{the_some}
use Rattle.nr_core.specs.State.{Replica}
use Rattle.nr_core.specs.declared.states.stage.Collected.{Collected}
use Rattle.nr_core.proofs.Keeping.{replica_seen, with_entries}
use Rattle.nr_core.proofs.states.state.Core.extend_log.Goals as goal
use Rattle.nr_core.proofs.states.state.Core.extend_log.Goals.{in-Ok, in-Err}

pub invariant_of-self : goal.invariant_of-self
invariant_of-self c =
    let x = c.index.result.now in
    let at : x ≡ slice_index_or c.self.inside.replicas.items c.args.replica x = search rules in
    let there = the_some _ c.requires.there in
    let one = replica_seen c.self.inside c.args.replica x there.0 c.self.view_is c.self.invariant there.1 at in
    let room : length c.self.inside.log.items + length x.batch.items ≤ LOG_PLACES =
    subst (λ s. length s.log + length x.batch.items ≤ LOG_PLACES) (sym c.self.view_is)
    (subst (λ (r : Replica). length c.args.self.now.log + length r.batch ≤ LOG_PLACES) one.is (c.requires.room there.0 there.1)) in
    let depth = c.self.inside.config.depth in
    elim c.match-push_entries.branch [
      | in-Ok w ↦
          let items : c.push_entries.new.log.items ≡ c.self.inside.log.items ++ map (λ (u : Collected). u.entry) x.batch.items = search rules in
          let fit : All (λ (e : LogEntry). IsAction depth e.op) (map (λ (u : Collected). u.entry) x.batch.items) =
          All-map (λ (e : LogEntry). IsAction depth e.op) (λ (u : Collected). u.entry) x.batch.items one.good.batch in
          rw items (with_entries _ c.self.invariant fit (rw (length-map x.batch.items (λ (u : Collected). u.entry)) room))
      | in-Err w ↦
          let items : c.push_entries.new.log.items ≡ c.self.inside.log.items = search rules in
          rw items c.self.invariant
    ]

pub returns-clause-extended : goal.returns-clause-extended
returns-clause-extended c before there =
    let x = c.index.result.now in
    let at : x ≡ slice_index_or c.self.inside.replicas.items c.args.replica x = search rules in
    let is = (replica_seen c.self.inside c.args.replica x before c.self.view_is c.self.invariant there at).is in
    elim c.match-push_entries.branch [
      | in-Ok w ↦
          let items : c.push_entries.new.log.items ≡ c.self.inside.log.items ++ map (λ (u : Collected). u.entry) x.batch.items = search rules in
          rw (w.result-is, is, items, ← c.self.view_is) refl
      | in-Err w ↦
          let items : c.push_entries.new.log.items ≡ c.self.inside.log.items = search rules in
          rw (w.result-is, items, ← c.self.view_is) refl
    ]
