use Rattle.std.proofs.Common.{◌≡◌, ◌++◌, [], ◌∷◌, slice_index_or, refl, sym, subst, ◌∙◌, rules}
use Rattle.std.specs.Prelude.{All}
use Rattle.std.proofs.lemmas.List.Elements.{All-push}
use Rattle.vs_types.specs.Operation.{IsAction}
use Rattle.nr_trace.proofs.LawsOfCalls.{the_some}
use Rattle.nr_core.specs.Steps as steps
use Rattle.nr_core.specs.inside.Parts.{replica_in}
use Rattle.nr_core.specs.declared.states.stage.Collected.{Collected}
use Rattle.nr_core.proofs.Keeping.{replica_seen, with_other_replica, set_replica, same_replica}
use Rattle.nr_core.proofs.states.state.Core.push_update.Goals as goal
use Rattle.nr_core.proofs.states.state.Core.push_update.Goals.{in-Ok, in-Err}

pub invariant_of-self : goal.invariant_of-self
invariant_of-self c =
    let x = c.index_mut.result.now in
    let at : x ≡ slice_index_or c.self.inside.replicas.items c.args.replica x = search rules in
    let there = the_some _ c.requires.there in
    let good = (replica_seen c.self.inside c.args.replica x there.0 c.self.view_is c.self.invariant there.1 at).good in
    let update : IsAction c.self.inside.config.depth c.args.update.entry.op =
    subst (λ s. IsAction s.layout.depth c.args.update.entry.op) (sym c.self.view_is) c.requires.fits in
    let batch : All (λ (u : Collected). IsAction c.self.inside.config.depth u.entry.op) c.push.new.self.items = elim c.match-push.branch [
      | in-Ok w ↦
          let items : c.push.new.self.items ≡ x.batch.items ++ c.args.update ∷ [] = search rules in
          subst (All (λ (u : Collected). IsAction c.self.inside.config.depth u.entry.op)) (sym items)
          (All-push (λ (u : Collected). IsAction c.self.inside.config.depth u.entry.op) x.batch.items c.args.update good.batch update)
      | in-Err w ↦
          let items : c.push.new.self.items ≡ x.batch.items = search rules in
          subst (All (λ (u : Collected). IsAction c.self.inside.config.depth u.entry.op)) (sym items) good.batch
    ] in
    with_other_replica _ _ c.self.invariant (record { depth = good.depth; limit = good.limit; batch = batch })

pub returns-clause-pushed : goal.returns-clause-pushed
returns-clause-pushed c before there =
    let x = c.index_mut.result.now in
    let at : x ≡ slice_index_or c.self.inside.replicas.items c.args.replica x = search rules in
    let is = (replica_seen c.self.inside c.args.replica x before c.self.view_is c.self.invariant there at).is in
    elim c.match-push.branch [
      | in-Ok w ↦
          let items : c.push.new.self.items ≡ x.batch.items ++ c.args.update ∷ [] = search rules in
          let seen : replica_in (record x { batch = c.push.new.self }) ≡ steps.with_update before c.args.update = rw (is, items) refl in
          rw w.result-is (set_replica c.self.inside _ _ c.self.view_is c.from-r.ensures seen)
      | in-Err w ↦
          let items : c.push.new.self.items ≡ x.batch.items = search rules in
          let seen : replica_in (record x { batch = c.push.new.self }) ≡ before = rw (is, items) refl in
          rw w.result-is (set_replica c.self.inside _ _ c.self.view_is c.from-r.ensures seen ∙ same_replica _ c.args.replica before there)
    ]
