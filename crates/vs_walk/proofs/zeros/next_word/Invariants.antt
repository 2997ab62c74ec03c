use Rattle.std.proofs.Common.{◌≤◌, ◌-◌, length}
use Rattle.vs_walk.specs.inside.Traversed.{AreZeros}
use Rattle.vs_walk.proofs.zeros.next_word.Given as goal

abbrev pub invariant-loop-index : goal.invariant-loop-index
invariant-loop-index l = record {
  behind : l.start ≤ l.index;
  within : l.index ≤ length l.words;
  zeros : AreZeros l.words l.start l.index;
}

abbrev pub decreases-loop-index : goal.decreases-loop-index
decreases-loop-index l = length l.words - l.index
