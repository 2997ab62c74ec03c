use Rattle.std.proofs.Common.{◌≡◌, ◌<◌, map, Contains}
use Rattle.std.specs.List.Sorted.{IsNonDecreasingBy}
use Rattle.nr_trace.specs.Laws.{HasCleanLog}
use Rattle.nr_touch.specs.declared.changes.change.PlacedChange.{PlacedChange}
use Rattle.nr_touch.specs.inside.Columns.{IsNumbered}
use Rattle.nr_touch.specs.inside.Undo.{LeadsTo}
use Rattle.nr_touch.proofs.Replayed.{IsReplayed}
use Rattle.nr_touch.proofs.changes.replay.replay.Given as goal

abbrev pub invariant-loop-place : goal.invariant-loop-place
invariant-loop-place l = record {
  depth : l.space.depth ≡ l.trace.layout.depth;
  limit : l.space.limit ≡ l.trace.layout.tables;
  leads : LeadsTo l.fn.start.depth l.fn.start.space (map (λ (c : PlacedChange). c.change) l.changes.items) l.space.space;
  numbered : (c : PlacedChange) → Contains l.changes.items c → IsNumbered c × (c.place < l.place);
  rising : IsNonDecreasingBy (λ (c : PlacedChange). c.place) l.changes.items;
  clean : HasCleanLog l.trace → IsReplayed l.fn.start.space l.trace l.changes.items l.place l.space.space;
}
