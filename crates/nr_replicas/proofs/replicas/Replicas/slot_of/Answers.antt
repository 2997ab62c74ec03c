use Rattle.std.proofs.Common.{ℕ, ◌/◌, ◌<◌, ◌≤◌, ◌∙◌, ap, subst, sym}
use Rattle.vs_types.specs.Config.{Layout}
use Rattle.nr_replicas.specs.inside.Replicas.{slots_each}
use Rattle.nr_replicas.proofs.Places.{enough_slots}
use Rattle.nr_replicas.proofs.replicas.Replicas.slot_of.Goals as goal

pub returns-clause-is : goal.returns-clause-is
returns-clause-is g c =
    ap (λ (n : ℕ). c.args.thread / n) (c.from.ensures ∙ c.replicas.ensures.reads ∙ ap (λ (l : Layout). l.replicas) c.self.view_is)

pub returns-clause-within : goal.returns-clause-within
returns-clause-within g c =
    let layout = c.args.self.now in
    let count = c.from.ensures ∙ c.replicas.ensures.reads ∙ ap (λ (l : Layout). l.replicas) c.self.view_is in
    let Some : Layout → Type 0 = λ l. 1 ≤ l.replicas in
    let some = subst Some c.self.view_is c.replicas.ensures.in_range.some_replica in
    subst (λ (n : ℕ). c.args.thread / n < slots_each layout) (sym count) (enough_slots layout c.args.thread some c.requires)
