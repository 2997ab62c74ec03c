use Rattle.std.proofs.Common.{◌≡◌, ◌≤◌}
use Rattle.vs_walk.specs.InFormat.{walk_in, walk_from_in}
use Rattle.vs_walk.proofs.walk.translate_in.Given as goal

abbrev pub invariant-loop-level : goal.invariant-loop-level
invariant-loop-level g l = record {
  few : l.level ≤ (g.E.EntryFormat.format l.format).levels;
  same : walk_in (g.E.EntryFormat.format l.format) (g.F.Frames.memory l.frames) l.root l.address
      ≡ walk_from_in (g.E.EntryFormat.format l.format) (g.F.Frames.memory l.frames) l.level l.number l.rights l.address;
}

abbrev pub decreases-loop-level : goal.decreases-loop-level
decreases-loop-level g l = l.level
