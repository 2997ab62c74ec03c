use Rattle.std.proofs.Common.{◌≡◌, ◌-◌, get_or}
use Rattle.vs_walk.specs.inside.Traversed.{GoesOn, TakesFound, table_at}
use Rattle.vs_walk.proofs.TraversalWords.{met_up_to}
use Rattle.vs_walk.proofs.traversal.+go_through.Given as goal

abbrev pub decreases-go_through : goal.decreases-go_through
decreases-go_through g l = l.place.level

abbrev pub invariant-loop-next : goal.invariant-loop-next
invariant-loop-next g l = record {
  word : l.next.word ≡ get_or l.words l.next.index 0;
  goes_on : GoesOn (g.F.Frames.memory l.frames) l.fn.marks l.marks
      (met_up_to (g.E.EntryFormat.format l.format) (g.F.Frames.memory l.frames) l.place.level (table_at l.place) l.words l.next.index);
  takes : TakesFound (g.V.VisitorOf.HasVisited l.fn.visitor) (g.V.VisitorOf.HasVisited l.visitor)
      (met_up_to (g.E.EntryFormat.format l.format) (g.F.Frames.memory l.frames) l.place.level (table_at l.place) l.words l.next.index);
}

abbrev pub decreases-loop-next : goal.decreases-loop-next
decreases-loop-next g l = 512 - l.next.index
