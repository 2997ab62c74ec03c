use Rattle.std.proofs.Common.{rules, Some, ap, sym, subst, ◌∙◌}
use Rattle.version_cell.specs.Passes.{CellPass}
use Rattle.nr_ring.specs.Pass.{Known}
use Rattle.nr_ring.specs.declared.cells.stored.Stored.{Stored}
use Rattle.nr_ring.specs.declared.ring.view.View.{View}
use Rattle.nr_ring.specs.inside.Held.{Remembers}
use Rattle.nr_ring.proofs.Advances.{owner_remembers}
use Rattle.nr_ring.proofs.ring.ring_log.RingLog.peek.Goals as goal

pub read-requires : goal.read-requires
read-requires g c =
    let is = c.refresh.ensures.known c.pass.inside.replica c.pass.inside.ring c.pass.invariant in (
      search rules,
      (
        c.refresh.ensures.log ∙ ap (λ (k : Known). k.log) c.pass.view_is ∙ c.requires.log,
        (
          (c.pass.inside.ring, owner_remembers _ _ _ _ c.pass.inside.replica (Some c.in-Some.replica) c.pass.inside.ring c.refresh.new.pass is c.in-Some.is),
          (c.refresh.ensures.fresh, c.requires.empty),
        ),
      ),
    )

pub invariant_of-pass : goal.invariant_of-pass
invariant_of-pass g c =
    let Is : CellPass View Stored → Type 0 = λ p.
    Remembers g.J.LogName.depth g.J.LogName.replicas g.J.LogName.passes g.J.LogName.places c.pass.inside.replica c.pass.inside.ring p in
    subst Is (sym c.read.ensures.same) (c.refresh.ensures.known c.pass.inside.replica c.pass.inside.ring c.pass.invariant)
