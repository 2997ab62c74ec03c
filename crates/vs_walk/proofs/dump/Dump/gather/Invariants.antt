use Rattle.std.proofs.Common.{◌≡◌, ℕ, take, Contains}
use Rattle.std.specs.FinMap as finite
use Rattle.vs_walk.proofs.dump.Dump.gather.Given as goal

abbrev pub invariant-loop-number : goal.invariant-loop-number
invariant-loop-number g l = record {
  applied : l.dump.applied ≡ l.fn.applied;
  root : l.dump.root ≡ l.fn.root;
  numbers : finite.keys l.dump.frames ≡ take l.number-index l.numbers;
  count : finite.len l.dump.frames ≡ l.number-index;
  held : (q : ℕ) → Contains (take l.number-index l.numbers) q → finite.get l.dump.frames q ≡ finite.get (g.F.Frames.memory l.frames) q;
}
