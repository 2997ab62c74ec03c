use Rattle.std.proofs.Common.{◌≡◌, ◌-◌, take}
use Rattle.vs_types.specs.Space.{Space}
use Rattle.nr_touch.specs.inside.Undo.{LeadsTo}
use Rattle.nr_touch.proofs.changes.undo.undo_all.Given as goal

abbrev pub invariant-loop-undone : goal.invariant-loop-undone
invariant-loop-undone l = record {
  depth : l.space.depth ≡ l.fn.space.depth;
  limit : l.space.limit ≡ l.fn.space.limit;
  leads : (before : Space) → LeadsTo l.fn.space.depth before l.changes l.fn.space.space
      → LeadsTo l.fn.space.depth before (take (l.count - l.undone) l.changes) l.space.space;
}
